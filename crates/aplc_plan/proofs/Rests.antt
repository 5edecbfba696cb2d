-- What is left of lists of steps, item by item.
use Rattle.std.proofs.Common.{◌≡◌, ◌∙◌, ap, ap₂, sym, refl, ℕ, zero, suc, ◌+◌, ◌≤◌, List, [], ◌∷◌, ◌++◌, drop, length, map, arith, append_assoc}
use Rattle.std.specs.Prelude.{Option, Some, None, slice_get, unwrap_or, option_map}
use Rattle.std.proofs.Math.ListN.{drop_of_length-le}
use Rattle.std.proofs.lemmas.List.{append-nil, length-map}
use Rattle.std.proofs.lemmas.Option.{slice_get_past, slice_get-map}
use Rattle.aplc_syntax.specs.declared.tree.Function.{Function}
use Rattle.aplc_names.specs.PlainPrograms.{routine_of, line_action}
use Rattle.aplc_core.specs.PlainSteps.{Effect}
use Rattle.aplc_core.specs.CoreRuns.{steps_at}
use Rattle.aplc_core.specs.CorePrograms.{line_steps, program_steps, routine_steps}
use Rattle.aplc_core.specs.Lowering.{lowered, lowered_routine}
use Rattle.aplc_syntax.specs.declared.tree.Program.{Program}
use Rattle.aplc_plan.specs.Held.{each_of}
use Rattle.aplc_plan.specs.Walked.{function_steps}

-- the next item, and what is left behind it
pub rest_more : {A : Type 0} (f : List A → List ℕ) → f [] ≡ [] → (xs : List (List A)) (i : ℕ) → each_of f (drop i xs) ≡ f (unwrap_or (slice_get xs i) []) ++ each_of f (drop (i + 1) xs)
rest_more {A = A} f e [] i =
    let none : List (List A) = [] in
    let a : drop i none ≡ [] = drop_of_length-le [] (omega arith) in let b : drop (i + 1) none ≡ [] = drop_of_length-le [] (omega arith) in let s : slice_get none i ≡ None = slice_get_past [] i (omega arith) in
    ap (each_of f) a ∙ sym (ap₂ (λ x y. x ++ y) (ap (λ o. f (unwrap_or o [])) s ∙ e) (ap (each_of f) b))
rest_more f e (x ∷ xs) zero = refl
rest_more f e (x ∷ xs) (suc i) = let h : suc (i + 1) ≡ suc i + 1 = omega arith in rest_more f e xs i ∙ ap (λ k. f (unwrap_or (slice_get xs i) []) ++ each_of f (drop k (x ∷ xs))) h

pub rest_none : {A : Type 0} (f : List A → List ℕ) (xs : List (List A)) (n : ℕ) → length xs ≤ n → each_of f (drop n xs) ≡ []
rest_none f xs n l = ap (each_of f) (drop_of_length-le xs l)

pub line_is : (p : Program) (i l : ℕ) → line_steps p i (l + 1) ≡ unwrap_or (slice_get (function_steps p i) l) []
line_is p i l = ap (λ k. unwrap_or (steps_at (function_steps p i) k) []) (one_more l)
  where
    one_more : (m : ℕ) → m + 1 ≡ suc m
    one_more m = omega arith

-- what is out so far, with what is left, when one item more is out
pub step_over : {A : Type 0} (f : List A → List ℕ) → f [] ≡ [] → (xs : List (List A)) (i : ℕ) (s : List A) (old new whole : List ℕ) → new ≡ old ++ f s → s ≡ unwrap_or (slice_get xs i) []
    → old ++ each_of f (drop i xs) ≡ whole → new ++ each_of f (drop (i + 1) xs) ≡ whole
step_over f e xs i s old new whole h g inv = let rest = each_of f (drop (i + 1) xs) in
    ap (λ z. z ++ rest) h ∙ append_assoc old (f s) rest ∙ ap (λ z. old ++ z) (ap (λ y. f y ++ rest) g ∙ sym (rest_more f e xs i)) ∙ inv

pub nothing_left : {A : Type 0} (f : List A → List ℕ) (xs : List (List A)) (n : ℕ) (out whole : List ℕ) → length xs ≤ n → out ++ each_of f (drop n xs) ≡ whole → out ≡ whole
nothing_left f xs n out whole l inv = sym (append-nil out) ∙ sym (ap (λ z. out ++ z) (rest_none f xs n l)) ∙ inv

-- ---- How many there are

pub functions_count : (p : Program) → length (program_steps p) ≡ length p.functions
functions_count p = length-map (map lowered_routine (map (routine_of p) p.functions)) routine_steps ∙ length-map (map (routine_of p) p.functions) lowered_routine ∙ length-map p.functions (routine_of p)

function_found : (p : Program) (i : ℕ) → slice_get (program_steps p) i ≡ option_map routine_steps (option_map lowered_routine (option_map (routine_of p) (slice_get p.functions i)))
function_found p i =
    slice_get-map routine_steps (map lowered_routine (map (routine_of p) p.functions)) i
    ∙ ap (option_map routine_steps) (slice_get-map lowered_routine (map (routine_of p) p.functions) i ∙ ap (option_map lowered_routine) (slice_get-map (routine_of p) p.functions i))

pub lines_count : (p : Program) (i : ℕ) (f : Function) → slice_get p.functions i ≡ Some f → length (function_steps p i) ≡ length f.lines
lines_count p i f e =
    ap (λ (o : Option (List (List Effect))). length (unwrap_or o [])) (function_found p i ∙ ap (λ (o : Option Function). option_map routine_steps (option_map lowered_routine (option_map (routine_of p) o))) e)
    ∙ length-map (map line_action f.lines) lowered ∙ length-map f.lines line_action

pub no_lines : (p : Program) (i : ℕ) → slice_get p.functions i ≡ None → function_steps p i ≡ []
no_lines p i e =
    ap (λ (o : Option (List (List Effect))). unwrap_or o []) (function_found p i ∙ ap (λ (o : Option Function). option_map routine_steps (option_map lowered_routine (option_map (routine_of p) o))) e)
