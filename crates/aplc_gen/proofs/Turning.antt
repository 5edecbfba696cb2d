-- Where lines lead, and the lines to which branches lead.
use Rattle.std.proofs.Common.{◌≡◌, ◌∙◌, sym, ap, refl, subst, ℕ, zero, suc, ◌+◌, ◌<◌, ◌≤◌, List, [], ◌∷◌, length, drop, get_or, set, replicate, Bool, true, false, nat_eq, ◌||◌, ◌⊎◌, inl, inr, ◌≢◌, arith, ℤ, pos, negsuc}
use Rattle.std.specs.Prelude.{int_lt, unsigned_abs, slice_get, unwrap_or, if◌then◌else◌}
use Rattle.std.proofs.lemmas.List.{get_or-set_same, get_or-set_other}
use Rattle.std.proofs.lemmas.Bool.Decides.{nat_tests}
use Rattle.aplc_names.specs.States.{is_among}
use Rattle.aplc_names.specs.Eager.{line_named}
use Rattle.aplc_core.specs.PlainSteps.{Effect, Keep, Store, StoreAt, Call, ReadText, ReadNums, Show, Branch}
use Rattle.aplc_core.specs.CoreRuns.{CoreRoutine, steps_at}
use Rattle.aplc_gen.specs.Emitted.{Lead, out, to, computed, landing, lead_at, lead_of_line, lead, may_lead, step_leads, steps_lead, lines_lead, is_out, step_loops, steps_loop, lines_loop, is_entry, first_line}
use Rattle.aplc_gen.specs.Flows.{landing_of, AreLandings, HasBehind, landing_by, Turns, no_turns, turned, step_turned, steps_turned, lines_turned}

-- ---- Numbers of lines

pub named_below : (z : ℤ) → int_lt z (pos 0) ≡ true → 0 ≡ line_named z
named_below (pos n) h = absurd (not_below n h)
  where
    not_below : (n : ℕ) → int_lt (pos n) (pos 0) ≡ true → ⊥
    not_below n e = grind (arith, nat_tests)
named_below (negsuc n) h = refl

pub named_above : (z : ℤ) → int_lt z (pos 0) ≡ false → unsigned_abs z ≡ line_named z
named_above (pos n) h = refl
named_above (negsuc n) h = absurd (cc)

pub ruleset named = (named_below, named_above)

-- ---- Landings

pub leads_by : (f : CoreRoutine) (l : ℕ) → lead_at (landing_of f l) ≡ lead_of_line f l
leads_by f zero = refl
leads_by f (suc l) = refl

pub lead_there : (f : CoreRoutine) (xs : List ℕ) (l k : ℕ) (r : Lead) → AreLandings f xs → k ≡ get_or xs l 0 → r ≡ lead_at k → r ≡ lead_of_line f l
lead_there f xs l k r h e is = is ∙ ap lead_at (e ∙ h l) ∙ leads_by f l

-- the lines from number l + 1 on
pub drop_next : (l : ℕ) (xs : List (List Effect)) → l < length xs → drop l xs ≡ unwrap_or (slice_get xs l) [] ∷ drop (suc l) xs
drop_next l [] lt = absurd (omega (arith, lt))
drop_next zero (x ∷ xs) lt = refl
drop_next (suc l) (x ∷ xs) lt = drop_next l xs (omega (arith, lt))

at_suc : (l : ℕ) (xs : List (List Effect)) → steps_at xs (l + 1) ≡ slice_get xs l
at_suc l xs = let e : l + 1 ≡ suc l = omega arith in ap (steps_at xs) e

pub line_next : (l : ℕ) (xs : List (List Effect)) (x : List Effect) → l < length xs → x ≡ unwrap_or (steps_at xs (l + 1)) [] → drop l xs ≡ x ∷ drop (l + 1) xs
line_next l xs x lt is =
    let e : suc l ≡ l + 1 = omega arith in
    drop_next l xs lt ∙ ap (λ o. unwrap_or o [] ∷ drop (suc l) xs) (sym (at_suc l xs)) ∙ ap (λ y. y ∷ drop (suc l) xs) (sym is) ∙ ap (λ k. x ∷ drop k xs) e

pub drop_all : (l : ℕ) (xs : List (List Effect)) → length xs ≤ l → drop l xs ≡ []
drop_all zero [] h = refl
drop_all (suc l) [] h = refl
drop_all zero (x ∷ xs) h = absurd (omega (arith, h))
drop_all (suc l) (x ∷ xs) h = drop_all l xs (omega (arith, h))

-- behind the last line
pub no_landing : (f : CoreRoutine) (l : ℕ) → length f.steps < l → landing_of f l ≡ 0
no_landing f zero h = absurd (omega (arith, h))
no_landing f (suc l) h = ap (landing (suc l)) (drop_all l f.steps (omega (arith, h)))

zeros : (n l : ℕ) → get_or (replicate n zero) l zero ≡ zero
zeros zero l = refl
zeros (suc n) zero = refl
zeros (suc n) (suc l) = zeros n l

-- ---- Turns

pub lines_left : (f : CoreRoutine) (l : ℕ) (x : List Effect) (t u whole : Turns) → l < length f.steps → x ≡ unwrap_or (steps_at f.steps (l + 1)) [] → u ≡ steps_turned f x t → lines_turned f (drop l f.steps) t ≡ whole → lines_turned f (drop (l + 1) f.steps) u ≡ whole
lines_left f l x t u whole lt is e h =
    ap (lines_turned f (drop (l + 1) f.steps)) e ∙ sym (ap (λ xs. lines_turned f xs t) (line_next l f.steps x lt is)) ∙ h

-- whether turns lead to line l
abbrev leads_to : Turns → ℕ → Bool
leads_to t l = t.computed || is_among l t.lines

or_false : (a : Bool) → (a || false) ≡ a
or_false true = refl
or_false false = refl

or_true : (a : Bool) → (a || true) ≡ true
or_true true = refl
or_true false = refl

or_assoc : (a b c : Bool) → ((a || b) || c) ≡ (a || (b || c))
or_assoc true b c = refl
or_assoc false b c = refl

line_more : (c : Bool) (k l : ℕ) (b : Bool) → (c || (nat_eq l k || b)) ≡ ((c || b) || nat_eq k l)
line_more true k l b = refl
line_more false k l true = grind (arith, nat_tests)
line_more false k l false = grind (arith, nat_tests)

turned_leads : (x : Lead) (t : Turns) (l : ℕ) → leads_to (turned x t) l ≡ (leads_to t l || may_lead x l)
turned_leads out t l = sym (or_false (leads_to t l))
turned_leads (to k) t l = line_more t.computed k l (is_among l t.lines)
turned_leads computed t l = sym (or_true (leads_to t l))

step_leads_to : (f : CoreRoutine) (x : Effect) (t : Turns) (l : ℕ) → leads_to (step_turned f x t) l ≡ (leads_to t l || step_leads f x l)
step_leads_to f (Branch x) t l = turned_leads (lead f x) t l
step_leads_to f (Keep k x) t l = sym (or_false (leads_to t l))
step_leads_to f (Store i n x) t l = sym (or_false (leads_to t l))
step_leads_to f (StoreAt i n xs x) t l = sym (or_false (leads_to t l))
step_leads_to f (Call i n a b r) t l = sym (or_false (leads_to t l))
step_leads_to f (ReadText i k) t l = sym (or_false (leads_to t l))
step_leads_to f (ReadNums i k) t l = sym (or_false (leads_to t l))
step_leads_to f (Show o x) t l = sym (or_false (leads_to t l))

steps_lead_to : (f : CoreRoutine) (xs : List Effect) (t : Turns) (l : ℕ) → leads_to (steps_turned f xs t) l ≡ (leads_to t l || steps_lead f xs l)
steps_lead_to f [] t l = sym (or_false (leads_to t l))
steps_lead_to f (x ∷ xs) t l = steps_lead_to f xs (step_turned f x t) l ∙ ap (λ b. b || steps_lead f xs l) (step_leads_to f x t l) ∙ or_assoc (leads_to t l) (step_leads f x l) (steps_lead f xs l)

lines_lead_to : (f : CoreRoutine) (xs : List (List Effect)) (t : Turns) (l : ℕ) → leads_to (lines_turned f xs t) l ≡ (leads_to t l || lines_lead f xs l)
lines_lead_to f [] t l = sym (or_false (leads_to t l))
lines_lead_to f (x ∷ xs) t l = lines_lead_to f xs (steps_turned f x t) l ∙ ap (λ b. b || lines_lead f xs l) (steps_lead_to f x t l) ∙ or_assoc (leads_to t l) (steps_lead f x l) (lines_lead f xs l)

pub entry_is : (f : CoreRoutine) (t : Turns) (l : ℕ) → t ≡ lines_turned f f.steps no_turns → (nat_eq l (landing_of f 1) || (t.computed || is_among l t.lines)) ≡ is_entry f l
entry_is f t l e = ap (λ b. nat_eq l (first_line f) || b) (ap (λ u. leads_to u l) e ∙ lines_lead_to f f.steps no_turns l)

turned_loops : (x : Lead) (t : Turns) → (turned x t).loops ≡ (t.loops || (if is_out x then false else true))
turned_loops out t = sym (or_false t.loops)
turned_loops (to k) t = sym (or_true t.loops)
turned_loops computed t = sym (or_true t.loops)

step_loops_is : (f : CoreRoutine) (x : Effect) (t : Turns) → (step_turned f x t).loops ≡ (t.loops || step_loops f x)
step_loops_is f (Branch x) t = turned_loops (lead f x) t
step_loops_is f (Keep k x) t = sym (or_false t.loops)
step_loops_is f (Store i n x) t = sym (or_false t.loops)
step_loops_is f (StoreAt i n xs x) t = sym (or_false t.loops)
step_loops_is f (Call i n a b r) t = sym (or_false t.loops)
step_loops_is f (ReadText i k) t = sym (or_false t.loops)
step_loops_is f (ReadNums i k) t = sym (or_false t.loops)
step_loops_is f (Show o x) t = sym (or_false t.loops)

steps_loop_is : (f : CoreRoutine) (xs : List Effect) (t : Turns) → (steps_turned f xs t).loops ≡ (t.loops || steps_loop f xs)
steps_loop_is f [] t = sym (or_false t.loops)
steps_loop_is f (x ∷ xs) t = steps_loop_is f xs (step_turned f x t) ∙ ap (λ b. b || steps_loop f xs) (step_loops_is f x t) ∙ or_assoc t.loops (step_loops f x) (steps_loop f xs)

lines_loop_is : (f : CoreRoutine) (xs : List (List Effect)) (t : Turns) → (lines_turned f xs t).loops ≡ (t.loops || lines_loop f xs)
lines_loop_is f [] t = sym (or_false t.loops)
lines_loop_is f (x ∷ xs) t = lines_loop_is f xs (steps_turned f x t) ∙ ap (λ b. b || lines_loop f xs) (steps_loop_is f x t) ∙ or_assoc t.loops (steps_loop f x) (lines_loop f xs)

pub loops_is : (f : CoreRoutine) (t : Turns) → t ≡ lines_turned f f.steps no_turns → t.loops ≡ lines_loop f f.steps
loops_is f t e = ap (λ (u : Turns). u.loops) e ∙ lines_loop_is f f.steps no_turns

-- ---- The table of landings

pub has_none : (f : CoreRoutine) (n : ℕ) (xs : List ℕ) → xs ≡ replicate (n + 1) 0 → n ≡ length f.steps → HasBehind f xs n
has_none f n xs e is k lt = ap (λ ys. get_or ys k 0) e ∙ zeros (n + 1) k ∙ sym (no_landing f k (omega (arith, is, lt)))

landed : (l : ℕ) (xs : List (List Effect)) (x : List Effect) → drop l xs ≡ x ∷ drop (suc l) xs → landing (suc l) (drop l xs) ≡ landing (suc l) (x ∷ drop (suc l) xs)
landed l xs x e = ap (landing (suc l)) e

by_steps : (f : CoreRoutine) (l next : ℕ) (x : List Effect) → drop l f.steps ≡ x ∷ drop (suc l) f.steps → next ≡ landing_of f (suc (suc l)) → landing_by x (suc l) next ≡ landing_of f (suc l)
by_steps f l next [] e is = let one : suc l + 1 ≡ suc (suc l) = omega arith in is ∙ sym (ap (landing (suc l)) e ∙ ap (λ k. landing k (drop (suc l) f.steps)) one)
by_steps f l next (y ∷ ys) e is = sym (ap (landing (suc l)) e)

same_or_behind : (l k : ℕ) → l < k → (k ≡ suc l) ⊎ (suc l < k)
same_or_behind l k h = grind arith

not_same : (l k : ℕ) → suc l < k → k ≢ suc l
not_same l k h e = omega (arith, h, e)

pub one_landing : (f : CoreRoutine) (xs : List ℕ) (l v next : ℕ) (x : List Effect) → l < length f.steps → length xs ≡ length f.steps + 1 → x ≡ unwrap_or (slice_get f.steps l) [] → next ≡ get_or xs (suc (suc l)) 0 → v ≡ landing_by x (suc l) next → HasBehind f xs (suc l) → HasBehind f (set xs (suc l) v) l
one_landing f xs l v next x lt long is at by h k less =
    elim (same_or_behind l k less) as (λ _. get_or (set xs (suc l) v) k 0 ≡ landing_of f k) [
      | inl e ↦ subst (λ j. get_or (set xs (suc l) v) j 0 ≡ landing_of f j) (sym e)
          (get_or-set_same xs (suc l) v 0 (omega (arith, lt, long)) ∙ by
          ∙ by_steps f l next x (drop_next l f.steps lt ∙ ap (λ y. y ∷ drop (suc l) f.steps) (sym is)) (at ∙ h (suc (suc l)) (omega arith)))
      | inr more ↦ get_or-set_other xs (suc l) k v 0 (not_same l k more) ∙ h k more
    ]

-- as the code has it
pub put_one : (f : CoreRoutine) (xs ys : List ℕ) (l v next : ℕ) (x : List Effect) → l < length f.steps → length xs ≡ length f.steps + 1 → x ≡ unwrap_or (steps_at f.steps (l + 1)) [] → next ≡ get_or xs (l + 1 + 1) 0 → v ≡ landing_by x (l + 1) next → HasBehind f xs (l + 1) → ys ≡ set xs (l + 1) v → HasBehind f ys l
put_one f xs ys l v next x lt long is at by h e =
    let one : l + 1 ≡ suc l = omega arith in
    let two : l + 1 + 1 ≡ suc (suc l) = omega arith in
    subst (λ (zs : List ℕ). HasBehind f zs l) (sym (e ∙ ap (λ k. set xs k v) one))
    (one_landing f xs l v next x lt long (is ∙ ap (λ o. unwrap_or o []) (at_suc l f.steps)) (at ∙ ap (λ k. get_or xs k 0) two) (by ∙ ap (λ k. landing_by x k next) one) (subst (HasBehind f xs) one h))

pub first_stays : (xs ys : List ℕ) (l v : ℕ) → ys ≡ set xs (l + 1) v → get_or ys 0 0 ≡ get_or xs 0 0
first_stays xs ys l v e = ap (λ zs. get_or zs 0 0) e ∙ get_or-set_other xs (l + 1) 0 v 0 (λ h. omega (arith, h))

pub all_landed : (f : CoreRoutine) (xs : List ℕ) → get_or xs 0 0 ≡ 0 → HasBehind f xs 0 → AreLandings f xs
all_landed f xs none h zero = none
all_landed f xs none h (suc l) = h (suc l) (omega arith)

pub ruleset landings = (put_one, first_stays)
