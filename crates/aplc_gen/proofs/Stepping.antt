-- The steps of a line: those that are no branches, the branch that ends it, and what comes after.
use Rattle.std.proofs.Common.{◌≡◌, ℕ, ◌+◌, List, [], ◌∷◌, refl, sym, ap, ◌∙◌, subst, ℤ, Bool, true, false}
use Rattle.std.specs.Prelude.{Option, Some, None}
use Rattle.aplc_scalar.specs.Scalar.{in_range}
use Rattle.aplc_scalar.specs.declared.kind.Kind.{Kind}
use Rattle.aplc_scalar.specs.declared.kind.Kind.TheVariants.{Num, Char}
use Rattle.aplc_arr.specs.Arrays.{Array}
use Rattle.aplc_cprof.specs.declared.syntax.CExpr.{CExpr}
use Rattle.aplc_cprof.specs.declared.syntax.CStmt.{CStmt}
use Rattle.aplc_cprof.specs.Machine.{Todo, Code, Caller, Is, Bad, read_int, numbered, size, total, settled}
use Rattle.aplc_cprof.specs.Machine as machine
use Rattle.aplc_names.specs.declared.scope.Scope.{Scope}
use Rattle.aplc_names.specs.declared.scope.Scope.TheVariants as scope
use Rattle.aplc_names.specs.States.{Places, Place, World, State, Gives, is_among, on_account, ended}
use Rattle.aplc_names.specs.Eager.{line_named, branch_to, branched}
use Rattle.aplc_core.specs.PlainSteps.{Effect, Term, Literal, Read, Slot, Mono, Dyad, Index}
use Rattle.aplc_core.specs.CoreRuns.{Told, Slots}
use Rattle.aplc_gen.specs.Built.{is_number}
use Rattle.aplc_gen.specs.Sound.{Ready, is_read, is_term}
use Rattle.aplc_gen.specs.Layouts.{Site, the_routine}
use Rattle.aplc_gen.specs.Emitted.{Lead, out, to, computed, landing, lead_at, lead_of_line, lead_by, known_number, lead, may_lead, steps_lead, steps_loop, lines_loop, is_out, is_entry, literal_expr, operand, tree_code, known_after, known_behind, known_through, is_branch, branches, step_code, go_to, leave_code, site_at}
use Rattle.aplc_gen.specs.Emitted as emitted
use Rattle.aplc_gen.specs.Relation.{IsNumber, Bounds, Here, Between, effect_works, pay}

-- ---- A branch whose number is known

pub is_same : (a b : ℤ) → Is a ≡ Is b → a ≡ b
is_same a b e = cc

-- its tree has no code, and its value is the number
pub record Static (g : Site) (known : List ℕ) (k : ℕ) (t : Term) (z : ℤ) : Type 0 where
  pub code : tree_code g known k t ≡ []
  pub operand_is : operand g k t ≡ literal_expr z
  pub fits : in_range z ≡ true

number_fits : (k : Kind) (z : ℤ) → is_number k (z ∷ []) ≡ true → in_range z ≡ true
number_fits Num z h = h
number_fits Char z h = absurd (cc)

label_fits : (b : Bool) (stored : List ℕ) (n : ℕ) (z : ℤ) → is_read b stored n (scope.Label z) ≡ true → in_range z ≡ true
label_fits true stored n z h = absurd (cc)
label_fits false stored n z h = h

pub static_of : (g : Site) (known : List ℕ) (k : ℕ) (l : Told) (r : Ready) (t : Term) (z : ℤ) → known_number (the_routine g).header.scope t ≡ Some z → is_term (the_routine g).header.scope l r t ≡ true → Static g known k t z
static_of g known k l r (Literal i kind []) z e ok = absurd (cc)
static_of g known k l r (Literal i kind (x ∷ [])) z e ok =
    let is : x ≡ z = cc in
    record { code = refl; operand_is = ap literal_expr is; fits = subst (λ w. in_range w ≡ true) is (number_fits kind x ok) }
static_of g known k l r (Literal i kind (x ∷ y ∷ zs)) z e ok = absurd (cc)
static_of g known k l r (Read i n) z e ok = by ((the_routine g).header.scope n) refl
  where
    by : (x : Scope) → (the_routine g).header.scope n ≡ x → Static g known k (Read i n) z
    by (scope.Label w) is =
        let same : w ≡ z = label_same w z (sym (ap (λ (x : Scope). known_of x) is) ∙ e) in
        record {
          code = ap (λ (x : Scope). read_of x) is;
          operand_is = ap (λ (x : Scope). operand_of x) is ∙ ap literal_expr same;
          fits = subst (λ v. in_range v ≡ true) same (label_fits (is_among i l.assigned) r.stored n w (subst (λ (x : Scope). is_read (is_among i l.assigned) r.stored n x ≡ true) is ok));
        }
      where
        known_of : Scope → Option ℤ
        known_of x = emitted.known_label x

        read_of : Scope → List CStmt
        read_of x = emitted.read_code g known x n

        operand_of : Scope → CExpr
        operand_of x = emitted.name_operand g x n

        label_same : (a b : ℤ) → Some a ≡ Some b → a ≡ b
        label_same a b e = cc
    by scope.Local is = absurd (none scope.Local is refl)
      where
        none : (x : Scope) → (the_routine g).header.scope n ≡ x → emitted.known_label x ≡ None → ⊥
        none x is no_label = let a : emitted.known_label ((the_routine g).header.scope n) ≡ None = ap emitted.known_label is ∙ no_label in absurd (cc)
    by scope.Global is = absurd (none scope.Global is refl)
      where
        none : (x : Scope) → (the_routine g).header.scope n ≡ x → emitted.known_label x ≡ None → ⊥
        none x is no_label = let a : emitted.known_label ((the_routine g).header.scope n) ≡ None = ap emitted.known_label is ∙ no_label in absurd (cc)
    by (scope.Function q) is = absurd (none (scope.Function q) is refl)
      where
        none : (x : Scope) → (the_routine g).header.scope n ≡ x → emitted.known_label x ≡ None → ⊥
        none x is no_label = let a : emitted.known_label ((the_routine g).header.scope n) ≡ None = ap emitted.known_label is ∙ no_label in absurd (cc)
static_of g known k l r (Slot i j) z e ok = absurd (cc)
static_of g known k l r (Mono i p b) z e ok = absurd (cc)
static_of g known k l r (Dyad i p a b) z e ok = absurd (cc)
static_of g known k l r (Index i a xs) z e ok = absurd (cc)

-- where a branch with a number leads
pub branch_number : (v : Array) (z : ℤ) (s : State) → IsNumber v z → branched (branch_to v) s ≡ Gives (Some (line_named z)) (on_account ended s)
branch_number v z s is = ap (λ (w : Array). branched (branch_to w) s) is.is

-- ---- Bounds

-- at the end of a line that has steps
abbrev pub line_over : ℕ → Bounds → Bounds
line_over k a = pay 98 (record a { lines = a.lines + 1000; fuel = k })

abbrev pub first_works : Told → List Effect → Bool
first_works l [] = false
first_works l (x ∷ xs) = effect_works l x

pub here_between : (g : Site) (b : Bounds) (known : List ℕ) (r : Ready) (slots : Slots) (ps : Places) (cs : List Caller) (here : Place) (behind : List Place) (S : World) (s : machine.State) → ps.here.function ≡ here.function → ps.behind ≡ behind → Here g b known r slots ps cs S s → Between g b known here behind cs S s
here_between g b known r slots ps cs here behind S s function around h = record {
  common = h.common;
  locals = h.locals;
  knows = h.knows;
  function = ap (λ (ps : Places). ps.here.function) h.places ∙ function;
  around = ap (λ (ps : Places). ps.behind) h.places ∙ around;
  callers = h.callers;
}
