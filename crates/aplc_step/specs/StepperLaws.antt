-- Why the test of a stepper looks only at its names, and gives only numbers of the machine's range.
use Rattle.std.proofs.Common.{◌≡◌, ℕ, List, [], ◌∷◌, refl, ap, ◌∙◌, ℤ}
use Rattle.std.specs.Prelude.{Option, Some, None, Ok, pos}
use Rattle.aplc_scalar.specs.Scalar.{IsInRange}
use Rattle.aplc_cprof.specs.declared.syntax.Int.{Int}
use Rattle.aplc_cprof.specs.declared.syntax.Op.TheVariants as op
use Rattle.aplc_cprof.specs.Machine.{State, Value, Is, Bad, apply, item_at, read_int}
use Rattle.aplc_cprof.specs.WellFormed.{Scope}
use Rattle.aplc_cprof.specs.Frames.{SameSeen}
use Rattle.aplc_cprof.specs.Emitted.{joint}
use Rattle.aplc_cprof.proofs.Frames.{seen_left, seen_right}
use Rattle.aplc_collect.specs.Elements.{ReadsWithin, GivesInRange, scope_of, one_step}
use Rattle.aplc_collect.specs.ElementLaws.{not_none, seen_int, seen_buf, number_in_range}
use Rattle.aplc_step.specs.declared.stepper.Origin.{Origin}
use Rattle.aplc_step.specs.declared.stepper.Origin.TheVariants as origin
use Rattle.aplc_step.specs.Steppers.{cells_at, origin_scope, scope_of_all, stepper_scope, address_value, cell_at, stepper_test}

cells_seen : (from : Origin) (tables : List (List ℤ)) (s t : State) → SameSeen (origin_scope from) s t → cells_at from tables t ≡ cells_at from tables s
cells_seen (origin.Buffer p) tables s t seen = seen_buf p s t seen
cells_seen (origin.Table k) tables s t seen = refl

address_seen : (xs : List Int) (s t : State) (a : Value) (is : List ℕ) → SameSeen (scope_of_all xs) s t → address_value t a xs is ≡ address_value s a xs is
address_seen [] s t a is seen = refl
address_seen (x ∷ xs) s t a [] seen = refl
address_seen (x ∷ xs) s t a (i ∷ is) seen =
    let here = seen_int x s t (seen_left (scope_of x) (scope_of_all xs) s t seen) in
    ap (λ v. address_value t (apply op.Add a (apply op.Mul (Is (pos i)) v)) xs is) here
    ∙ address_seen xs s t (apply op.Add a (apply op.Mul (Is (pos i)) (read_int x s))) is (seen_right (scope_of x) (scope_of_all xs) s t seen)

pub stepper_reads : (from : Origin) (base : Int) (strides : List Int) → ReadsWithin (stepper_scope from base strides) (stepper_test from base strides) one_step
stepper_reads from base strides = record { same = same_test; same_steps = λ tables s t seen. refl }
  where
    g : Scope
    g = joint (scope_of base) (scope_of_all strides)

    same_test : (tables : List (List ℤ)) (s t : State) → SameSeen (stepper_scope from base strides) s t → (is : List ℕ) → stepper_test from base strides tables t is ≡ stepper_test from base strides tables s is
    same_test tables s t seen is =
        let there = cells_seen from tables s t (seen_left (origin_scope from) g s t seen) in
        let names = seen_right (origin_scope from) g s t seen in
        let first = seen_int base s t (seen_left (scope_of base) (scope_of_all strides) s t names) in
        ap (λ o. cell_at o (address_value t (read_int base t) strides is)) there
        ∙ ap (λ v. cell_at (cells_at from tables s) (address_value t v strides is)) first
        ∙ ap (cell_at (cells_at from tables s)) (address_seen strides s t (read_int base s) is (seen_right (scope_of base) (scope_of_all strides) s t names))

cell_in_range : (o : Option (List ℤ)) (a : Value) (x : ℤ) → cell_at o a ≡ Some (Ok x) → IsInRange x
cell_in_range None a x e = absurd (not_none (Ok x) e)
cell_in_range (Some cells) (Bad c) x e = absurd (not_none (Ok x) e)
cell_in_range (Some cells) (Is k) x e = number_in_range (item_at cells k) x e

pub stepper_numbers : (from : Origin) (base : Int) (strides : List Int) → GivesInRange (stepper_test from base strides)
stepper_numbers from base strides = record { within = λ tables s is x e. cell_in_range (cells_at from tables s) (address_value s (read_int base s) strides is) x e }
