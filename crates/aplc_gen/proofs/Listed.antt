-- The functions of a program, one after the other.
use Rattle.std.proofs.Common.{◌≡◌, ◌∙◌, sym, ap, subst, refl, ℕ, zero, suc, ◌+◌, ◌<◌, ◌≤◌, List, [], ◌∷◌, ◌++◌, length, drop, append_assoc, append-nil, arith, Option, Some, None, Bool, true, false, nat_eq, ◌||◌}
use Rattle.std.specs.Prelude.{slice_get, unwrap_or}
use Rattle.std.proofs.lemmas.Bool.Decides.{nat_tests}
use Rattle.aplc_cprof.specs.declared.syntax.CFunction.{CFunction}
use Rattle.aplc_names.specs.States.{is_among}
use Rattle.aplc_core.specs.CorePrograms.{Core}
use Rattle.aplc_core.specs.CoreRuns.{PlainCore}
use Rattle.aplc_gen.specs.Layouts.{Layout, global_ints}
use Rattle.aplc_gen.specs.Emitted.{site_at}
use Rattle.aplc_gen.specs.Codes.{IsFunction, AreCalled, IsProgramOf}
use Rattle.aplc_gen.specs.Added.{AreFunctions}
use Rattle.aplc_gen.specs.Writing.{FitsProgram}

there : {A : Type 0} (xs : List A) (j : ℕ) → j < length xs → slice_get xs j ≡ None → ⊥
there [] j lt e = omega (arith, lt)
there (x ∷ xs) zero lt e = cc
there (x ∷ xs) (suc j) lt e = there xs j (omega (arith, lt)) e

pub name_there : (xs : List ℕ) (j : ℕ) (o : Option ℕ) → j < length xs → o ≡ slice_get xs j → o ≡ None → ⊥
name_there xs j o lt e is = there xs j lt (sym e ∙ is)

same : (n : ℕ) → nat_eq n n ≡ true
same n = grind (arith, nat_tests)

or_left : (a b : Bool) → a ≡ true → (a || b) ≡ true
or_left true b h = refl
or_left false b h = absurd (cc)

or_right : (a b : Bool) → b ≡ true → (a || b) ≡ true
or_right true b h = refl
or_right false b h = h

among : (xs : List ℕ) (j n : ℕ) → slice_get xs j ≡ Some n → is_among n xs ≡ true
among [] j n e = absurd (cc)
among (x ∷ xs) zero n e = let same_n : n ≡ x = cc in or_left (nat_eq n x) (is_among n xs) (ap (λ k. nat_eq n k) (sym same_n) ∙ same n)
among (x ∷ xs) (suc j) n e = or_right (nat_eq n x) (is_among n xs) (among xs j n e)

-- a function that is called is there
pub called_there : (y : Layout) (c : Core) (j n : ℕ) (o : Option ℕ) → FitsProgram y c → o ≡ slice_get y.called j → o ≡ Some n → n < length c.program.functions
called_there y c j n o h e is = h.called n (among y.called j n (sym e ∙ is))

drop_next : (xs : List ℕ) (j n : ℕ) → slice_get xs j ≡ Some n → drop j xs ≡ n ∷ drop (suc j) xs
drop_next [] j n e = absurd (cc)
drop_next (x ∷ xs) zero n e = let same_n : x ≡ n = cc in ap (λ k. k ∷ xs) same_n
drop_next (x ∷ xs) (suc j) n e = drop_next xs j n e

drop_over : (l : ℕ) (xs : List ℕ) → length xs ≤ l → drop l xs ≡ []
drop_over zero [] h = refl
drop_over (suc l) [] h = refl
drop_over zero (x ∷ xs) h = absurd (omega (arith, h))
drop_over (suc l) (x ∷ xs) h = drop_over l xs (omega (arith, h))

-- The functions that there are, with those that are called from number j on, are all.
pub record FunctionsLeft (y : Layout) (p : PlainCore) (j : ℕ) (fs : List CFunction) : Type 0 where
  pub first : CFunction
  pub rest : List CFunction
  pub is : fs ≡ first ∷ rest
  pub begins : IsFunction (site_at y p true (unwrap_or p.start 0)) first
  pub left : (later : List CFunction) → AreCalled y p (drop j y.called) later → AreCalled y p y.called (rest ++ later)

pub functions_begin : (y : Layout) (p : PlainCore) (k : ℕ) (f : CFunction) (fs : List CFunction) → k ≡ unwrap_or p.start 0 → IsFunction (site_at y p true k) f → fs ≡ f ∷ [] → FunctionsLeft y p 0 fs
functions_begin y p k f fs start h is = record {
  first = f;
  rest = [];
  is = is;
  begins = subst (λ i. IsFunction (site_at y p true i) f) start h;
  left = λ later called. called;
}

pub function_added : (y : Layout) (p : PlainCore) (j n : ℕ) (o : Option ℕ) (before after : List CFunction) (f : CFunction) → o ≡ slice_get y.called j → o ≡ Some n → IsFunction (site_at y p false n) f → after ≡ before ++ f ∷ [] → FunctionsLeft y p j before → FunctionsLeft y p (j + 1) after
function_added y p j n o before after f e is code pushed h =
    let one : suc j ≡ j + 1 = omega arith in
    let next = drop_next y.called j n (sym e ∙ is) ∙ ap (λ k. n ∷ drop k y.called) one in
    record {
      first = h.first;
      rest = h.rest ++ f ∷ [];
      is = pushed ∙ ap (λ (xs : List CFunction). xs ++ f ∷ []) h.is;
      begins = h.begins;
      left = λ later called.
          subst (λ (xs : List CFunction). AreCalled y p y.called xs) (sym (append_assoc h.rest (f ∷ []) later))
          (h.left (f ∷ later) (subst (λ js. AreCalled y p js (f ∷ later)) (sym next) (f, later, refl, code, called)));
    }

pub functions_over : (y : Layout) (p : PlainCore) (j : ℕ) (fs : List CFunction) → length y.called ≤ j → FunctionsLeft y p j fs → AreFunctions y p fs
functions_over y p j fs le h = record {
  first = h.first;
  rest = h.rest;
  is = h.is;
  begins = h.begins;
  called = subst (λ (xs : List CFunction). AreCalled y p y.called xs) (append-nil h.rest) (h.left [] (subst (λ js. AreCalled y p js []) (sym (drop_over j y.called le)) refl));
}

pub program_of : (y : Layout) (p : PlainCore) (fs : List CFunction) → AreFunctions y p fs → IsProgramOf y p (record { tables = []; ints = global_ints y; bufs = 0; functions = fs })
program_of y p fs h = record {
  tables = refl;
  ints = refl;
  bufs = refl;
  first = h.first;
  rest = h.rest;
  functions = h.is;
  begins = h.begins;
  called = h.called;
}

pub start_is : (s : Option ℕ) (k : ℕ) → s ≡ Some k → k ≡ unwrap_or s 0
start_is s k e = sym (ap (λ o. unwrap_or o 0) e)

pub ruleset functions_left = (name_there, called_there, start_is)
