-- Calls have the arguments of the headers of the functions that they call.
use Rattle.std.proofs.Common.{◌≡◌, ◌∙◌, refl, sym, ap, subst, ℕ, zero, suc, ◌+◌, List, [], ◌∷◌, Option, Some, None, Bool, true, false, ◌&&◌, nat_eq, if◌then◌else◌, map, drop, arith}
use Rattle.std.specs.Prelude.{is_some, option_map}
use Rattle.std.specs.List.{slice_get, AllZip}
use Rattle.std.proofs.lemmas.Option.{slice_get-map}
use Rattle.aplc_syntax.specs.declared.tree.Named.{Named}
use Rattle.aplc_syntax.specs.declared.tree.Function.{Function}
use Rattle.aplc_syntax.specs.declared.tree.Program.{Program}
use Rattle.aplc_syntax.specs.declared.word.Arity.{Arity}
use Rattle.aplc_syntax.specs.declared.word.Arity.TheVariants as arity
use Rattle.aplc_syntax.specs.declared.word.Role.{Role}
use Rattle.aplc_syntax.specs.declared.word.Role.TheVariants as role
use Rattle.aplc_syntax.specs.declared.word.WordKind.{WordKind}
use Rattle.aplc_syntax.specs.declared.word.WordKind.TheVariants as w
use Rattle.aplc_syntax.specs.Layout.{Block, Header, placed, named, locals, called, header, header_of, arity_of}
use Rattle.aplc_syntax.specs.Programs.{IsFunction}
use Rattle.aplc_syntax.specs.PlainTrees.{Argument, absent, given}
use Rattle.aplc_names.specs.Tables.{stands_in}
use Rattle.aplc_names.specs.Outlines.{header_names}
use Rattle.aplc_names.specs.Scopes.{function_number, label_line, local_or_global, label_or, function_or, scope_in}
use Rattle.aplc_names.specs.Fits.{arity_given, is_function, is_procedure, role_of_function, roles}
use Rattle.aplc_names.specs.Programs.{IsParsed}
use Rattle.aplc_names.specs.PlainPrograms.{routine_of, name_number, plain}
use Rattle.aplc_names.specs.Eager.{function_of}
use Rattle.aplc_names.proofs.Lists.{some_same, none_some}
use Rattle.aplc_core.specs.Lowering.{lowered_routine, lowered_program}
use Rattle.aplc_gen.specs.Sound.{both_or_none, suits}
use Rattle.aplc_gen.proofs.SoundCuts.{side}

-- ---- Headers

-- a left argument does not stand alone
abbrev pub IsLed : Option Named → Option Named → Type 0
IsLed (Some a) None = ⊥
IsLed _ _ = Unit {0}

abbrev IsLedHeader : Option Header → Type 0
IsLedHeader None = Unit {0}
IsLedHeader (Some h) = IsLed h.left h.right

both_there : (f a b : Named) (result : Option Named) (o : Option (List Named)) → IsLedHeader (option_map (λ ns. record { name = f; result = result; left = Some a; right = Some b; locals = ns }) o)
both_there f a b result None = tt
both_there f a b result (Some ns) = tt

one_there : (f : Named) (b result : Option Named) (o : Option (List Named)) → IsLedHeader (option_map (λ ns. record { name = f; result = result; left = None; right = b; locals = ns }) o)
one_there f None result None = tt
one_there f None result (Some ns) = tt
one_there f (Some b) result None = tt
one_there f (Some b) result (Some ns) = tt

called_led : (result : Option Named) (xs : List (WordKind × ℕ)) → IsLedHeader (called result xs)
called_led result ((w.Name ra a, pa) ∷ (w.Name rf f, pf) ∷ (w.Name rb b, pb) ∷ xs) = both_there (named f pf) (named a pa) (named b pb) result (locals xs)
called_led result ((w.Name rf f, pf) ∷ (w.Name rb b, pb) ∷ xs) = one_there (named f pf) (Some (named b pb)) result (locals xs)
called_led result ((w.Name rf f, pf) ∷ xs) = one_there (named f pf) None result (locals xs)
called_led result _ = tt

header_led : (xs : List (WordKind × ℕ)) → IsLedHeader (header xs)
header_led ((w.Name rr r, pr) ∷ (w.Assign, pa) ∷ xs) = called_led (Some (named r pr)) xs
header_led xs = called_led None xs

abbrev pub IsLedFunction : Function → Type 0
IsLedFunction f = IsLed f.left f.right

function_led : (f : Function) (b : Block) (h : Header) → header_of b ≡ Some h → f.left ≡ h.left → f.right ≡ h.right → IsLedFunction f
function_led f b h e l r =
    let g : IsLed h.left h.right = subst IsLedHeader e (header_led (map placed (drop 1 b.head.words))) in
    subst (λ x. IsLed x f.right) (sym l) (subst (λ x. IsLed h.left x) (sym r) g)

-- ---- Calls

-- the function of this number and of this role
abbrev FunctionAt : ℕ → List Function → Role → ℕ → Type 0
FunctionAt i fs r j = (k : ℕ) × (g : Function) × (j ≡ i + k) × (slice_get fs k ≡ Some g) × (r ≡ role_of_function g)

abbrev Found : ℕ → List Function → Role → Option ℕ → Type 0
Found i fs r None = r ≡ role.Variable
Found i fs r (Some j) = FunctionAt i fs r j

found_later : (i : ℕ) (f : Function) (fs : List Function) (r : Role) (o : Option ℕ) → Found (i + 1) fs r o → Found i (f ∷ fs) r o
found_later i f fs r None h = h
found_later i f fs r (Some j) h = let k : j ≡ (i + 1) + h.0 = h.2 in (suc h.0, h.1, omega (arith, k), h.3, h.4)

role_found : (n i : ℕ) (fs : List Function) → Found i fs (roles fs n) (function_number n i fs)
role_found n i [] = refl
role_found n i (f ∷ fs) = pick (nat_eq f.name.name.0 n) (role_found n (i + 1) fs)
  where
    pick : (b : Bool) → Found (i + 1) fs (roles fs n) (function_number n (i + 1) fs) → Found i (f ∷ fs) (if b then role_of_function f else roles fs n) (if b then Some i else function_number n (i + 1) fs)
    pick true h = (0, f, omega arith, refl, refl)
    pick false h = found_later i f fs (roles fs n) (function_number n (i + 1) fs) h

pub routine_at : (p : Program) (k : ℕ) (g : Function) → slice_get p.functions k ≡ Some g → slice_get (lowered_program (plain p)).routines k ≡ Some (lowered_routine (routine_of p g))
routine_at p k g e =
    slice_get-map lowered_routine (map (routine_of p) p.functions) k
    ∙ ap (option_map lowered_routine) (slice_get-map (routine_of p) p.functions k)
    ∙ ap (λ o. option_map lowered_routine (option_map (routine_of p) o)) e

-- a function of this role has the header that a call of this shape wants
module _ (p : Program) (a b : Argument) (r : Option ℕ) (ok : Role → Bool)
    (no_variable : ok role.Variable ≡ false)
    (fits : (result left right : Option Named) → IsLed left right → ok (if is_some result then role.Function (arity_of left right) else role.Procedure (arity_of left right)) ≡ true
    → both_or_none (side a) (option_map name_number left) && (both_or_none (side b) (option_map name_number right) && both_or_none r (option_map name_number result)) ≡ true)
    (led : (k : ℕ) (g : Function) → slice_get p.functions k ≡ Some g → IsLedFunction g) where
  clash : (x : Bool) → x ≡ true → x ≡ false → ⊥
  clash true e h = cc
  clash false e h = cc

  by_found : (f : Function) (n : ℕ) (o : Option ℕ) → Found 0 p.functions (roles p.functions n) o → ok (roles p.functions n) ≡ true
      → suits (side a) (side b) r (slice_get (lowered_program (plain p)).routines (function_of (function_or o (label_or (label_line n 1 f.lines) (local_or_global (stands_in n (header_names f))))))) ≡ true
  by_found f n None h e = absurd (clash (ok (roles p.functions n)) e (ap ok h ∙ no_variable))
  by_found f n (Some j) h e =
      let k : ℕ = h.0 in
      let g : Function = h.1 in
      let c : j ≡ 0 + k = h.2 in
      let same : j ≡ k = omega (arith, c) in
      ap (λ m. suits (side a) (side b) r (slice_get (lowered_program (plain p)).routines m)) same
      ∙ ap (λ o. suits (side a) (side b) r o) (routine_at p k g h.3)
      ∙ fits g.result g.left g.right (led k g h.3) (sym (ap ok h.4) ∙ e)

  pub call_suits : (f : Function) (n : ℕ) → ok (roles p.functions n) ≡ true → suits (side a) (side b) r (slice_get (lowered_program (plain p)).routines (function_of (scope_in p.functions f n))) ≡ true
  call_suits f n e = by_found f n (function_number n 0 p.functions) (role_found n 0 p.functions) e

-- ---- With a result and without

function_fits : (a b : Argument) (result left right : Option Named) → IsLed left right → is_function (arity_given a b) (if is_some result then role.Function (arity_of left right) else role.Procedure (arity_of left right)) ≡ true
    → both_or_none (side a) (option_map name_number left) && (both_or_none (side b) (option_map name_number right) && both_or_none (Some 0) (option_map name_number result)) ≡ true
function_fits absent absent (Some r) None None h e = refl
function_fits absent (given y) (Some r) None (Some d) h e = refl
function_fits (given x) (given y) (Some r) (Some c) (Some d) h e = refl
function_fits a b result (Some c) None h e = absurd h
function_fits absent absent (Some r) None (Some d) h e = cc
function_fits absent absent (Some r) (Some c) (Some d) h e = cc
function_fits absent (given y) (Some r) None None h e = cc
function_fits absent (given y) (Some r) (Some c) (Some d) h e = cc
function_fits (given x) (given y) (Some r) None None h e = cc
function_fits (given x) (given y) (Some r) None (Some d) h e = cc
function_fits (given x) absent result left right h e = cc
function_fits absent absent None None None h e = cc
function_fits absent absent None None (Some d) h e = cc
function_fits absent absent None (Some c) (Some d) h e = cc
function_fits absent (given y) None None None h e = cc
function_fits absent (given y) None None (Some d) h e = cc
function_fits absent (given y) None (Some c) (Some d) h e = cc
function_fits (given x) (given y) None None None h e = cc
function_fits (given x) (given y) None None (Some d) h e = cc
function_fits (given x) (given y) None (Some c) (Some d) h e = cc

procedure_fits : (a b : Argument) (result left right : Option Named) → IsLed left right → is_procedure (arity_given a b) (if is_some result then role.Function (arity_of left right) else role.Procedure (arity_of left right)) ≡ true
    → both_or_none (side a) (option_map name_number left) && (both_or_none (side b) (option_map name_number right) && both_or_none None (option_map name_number result)) ≡ true
procedure_fits absent absent None None None h e = refl
procedure_fits absent (given y) None None (Some d) h e = refl
procedure_fits (given x) (given y) None (Some c) (Some d) h e = refl
procedure_fits a b result (Some c) None h e = absurd h
procedure_fits absent absent None None (Some d) h e = cc
procedure_fits absent absent None (Some c) (Some d) h e = cc
procedure_fits absent (given y) None None None h e = cc
procedure_fits absent (given y) None (Some c) (Some d) h e = cc
procedure_fits (given x) (given y) None None None h e = cc
procedure_fits (given x) (given y) None None (Some d) h e = cc
procedure_fits (given x) absent result left right h e = cc
procedure_fits absent absent (Some r) None None h e = cc
procedure_fits absent absent (Some r) None (Some d) h e = cc
procedure_fits absent absent (Some r) (Some c) (Some d) h e = cc
procedure_fits absent (given y) (Some r) None None h e = cc
procedure_fits absent (given y) (Some r) None (Some d) h e = cc
procedure_fits absent (given y) (Some r) (Some c) (Some d) h e = cc
procedure_fits (given x) (given y) (Some r) None None h e = cc
procedure_fits (given x) (given y) (Some r) None (Some d) h e = cc
procedure_fits (given x) (given y) (Some r) (Some c) (Some d) h e = cc

no_function : (o : Option Arity) → is_function o role.Variable ≡ false
no_function None = refl
no_function (Some arity.Niladic) = refl
no_function (Some arity.Monadic) = refl
no_function (Some arity.Dyadic) = refl

no_procedure : (o : Option Arity) → is_procedure o role.Variable ≡ false
no_procedure None = refl
no_procedure (Some arity.Niladic) = refl
no_procedure (Some arity.Monadic) = refl
no_procedure (Some arity.Dyadic) = refl

-- a function that is called for its value
pub value_call_suits : (p : Program) (f : Function) (n : ℕ) (a b : Argument) → ((k : ℕ) (g : Function) → slice_get p.functions k ≡ Some g → IsLedFunction g) → is_function (arity_given a b) (roles p.functions n) ≡ true
    → suits (side a) (side b) (Some 0) (slice_get (lowered_program (plain p)).routines (function_of (scope_in p.functions f n))) ≡ true
value_call_suits p f n a b led e = call_suits p a b (Some 0) (λ r. is_function (arity_given a b) r) (no_function (arity_given a b)) (λ result left right h g. function_fits a b result left right h g) led f n e

-- one that is called for what it does
pub quiet_call_suits : (p : Program) (f : Function) (n : ℕ) (a b : Argument) → ((k : ℕ) (g : Function) → slice_get p.functions k ≡ Some g → IsLedFunction g) → is_procedure (arity_given a b) (roles p.functions n) ≡ true
    → suits (side a) (side b) None (slice_get (lowered_program (plain p)).routines (function_of (scope_in p.functions f n))) ≡ true
quiet_call_suits p f n a b led e = call_suits p a b None (λ r. is_procedure (arity_given a b) r) (no_procedure (arity_given a b)) (λ result left right h g. procedure_fits a b result left right h g) led f n e

-- ---- Programs

functions_led : {X : Type 0} (R : X → Function → Type 0) (bs : List X) (fs : List Function) → ((b : X) (f : Function) → R b f → IsLedFunction f) → AllZip R bs fs → (k : ℕ) (g : Function) → slice_get fs k ≡ Some g → IsLedFunction g
functions_led R bs [] each z k g e = absurd (none_some g e)
functions_led R [] (f ∷ fs) each z k g e = absurd z
functions_led R (b ∷ bs) (f ∷ fs) each z zero g e = subst IsLedFunction (some_same f g e) (each b f z.0)
functions_led R (b ∷ bs) (f ∷ fs) each z (suc k) g e = functions_led R bs fs each z.1 k g e

pub parsed_led : (p : Program) → IsParsed p → (k : ℕ) (g : Function) → slice_get p.functions k ≡ Some g → IsLedFunction g
parsed_led p h k g e = functions_led (IsFunction h.text _) _ p.functions (λ b f i. function_led f b i.head i.headed i.left i.right) h.program.functions k g e
