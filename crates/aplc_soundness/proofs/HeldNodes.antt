-- A node is given a value that fits: by a rule, by a literal, from a name or a line of input.
use Rattle.std.proofs.Common.{◌≡◌, sym, refl, subst, ℕ, List, [], ◌∷◌, Option, Some, None, Ok, Err, true, false, ℤ}
use Rattle.std.specs.Prelude.{Result}
use Rattle.aplc_scalar.specs.declared.kind.FaultKind.{FaultKind}
use Rattle.aplc_scalar.specs.declared.kind.FaultKind.TheVariants as fault
use Rattle.aplc_scalar.specs.declared.kind.Kind.{Kind}
use Rattle.aplc_scalar.specs.Input.{InputLine, Line, Unread}
use Rattle.aplc_syntax.specs.PlainTrees.{Tree, Numbers, Text, Name, TextInput, NumsInput, Mono, Dyad, Index, Assign, AssignAt, Show, Call, Trees}
use Rattle.aplc_arr.specs.Arrays.{Array}
use Rattle.aplc_arr.specs.Delayed.{Delayed, Prepared, cells_of}
use Rattle.aplc_names.specs.PlainPrograms.{Routine}
use Rattle.aplc_names.specs.States.{World, State, Marking, Outcome, Gives, Faulted, Going, on_world}
use Rattle.aplc_names.specs.Eager.{Caller, Use, passed, stored, displayed, ready, filled, made, there, read_line, literal, vector, assigned, put, change, change_there, called, value, values, argument, value_of_name}
use Rattle.aplc_names.specs.Eager as eager
use Rattle.aplc_infer.specs.declared.fact.Inferred.{Inferred}
use Rattle.aplc_infer.specs.declared.cell.Cell.TheVariants as cell
use Rattle.aplc_infer.specs.Facts.{below, is_mixed}
use Rattle.aplc_infer.specs.Rules.{Ruled, fact_of, any_fact, literal_of}
use Rattle.aplc_infer.specs.Seeing.{Family, Declarations, Progress, demand, asked_for, denied_by, denied_read, ruled, settles, is_local, local_names, number_in, binding_of, binding_in, name_fact, assign_to, change_name, function_of, call_by, call_fact, see, see_all, see_argument}
use Rattle.aplc_infer.specs.Seeing as seeing
use Rattle.aplc_infer.specs.Families.{AreMet}
use Rattle.aplc_soundness.specs.Holding.{Holds, HoldsOf, HoldsAll}
use Rattle.aplc_soundness.specs.RulesHold.{IsLiteral, HoldsOfCells, HoldsOfPrepared, RulesHold}
use Rattle.aplc_infer.specs.RulesRise.{RulesRise}
use Rattle.aplc_infer.proofs.Order.{below_refl}
use Rattle.aplc_infer.proofs.Monotone.{NamesBelow, Follows, met_right, see_rises, see_all_rises}
use Rattle.aplc_soundness.proofs.Held.{not_rank, every_push, holds_above}
use Rattle.aplc_soundness.proofs.HeldNames.{Agrees, AgreesOutside, outside, ruled_same}
use Rattle.aplc_soundness.proofs.Comes.{Comes, Always, IsFairLine}

-- ---- What the lemmas share

-- calls of functions keep to the facts of parameters, results and globals, and leave the caller's names alone
abbrev pub FitsCalls : Declarations → Family → Caller → Type 0
FitsCalls d g h =
    (j : ℕ) (x y : Option Array) (s : State) → HoldsOf (g (cell.Left j)) x → HoldsOf (g (cell.Right j)) y → AgreesOutside d g s.world
    → Comes (AgreesOutside d g) (λ z w. HoldsOf (g (cell.Answer j)) z × AgreesOutside d g w × (w.locals ≡ s.world.locals)) (h j x y s)

pub record Setting : Type 0 where
  pub origin : ℤ
  pub declared : Declarations
  pub routine : Routine
  pub family : Family
  pub marking : Marking
  pub call : Caller
  pub hold : RulesHold origin
  pub rise : RulesRise origin
  pub calls : FitsCalls declared family call

-- of evaluation, and of typing
abbrev pub running : Setting → eager.Context
running c = record { origin = c.origin; scope = c.routine.scope; marking = c.marking; call = c.call }

abbrev pub typing : Setting → seeing.Context
typing c = record { origin = c.origin; declared = c.declared; binding = binding_in c.routine }

-- facts of names that stay agree with the world
abbrev pub Outside : Setting → World → Type 0
Outside c w = AgreesOutside c.declared c.family w

abbrev pub Agreeing : Setting → List Inferred → World → Type 0
Agreeing c ns w = Agrees c.declared c.routine c.family ns w

-- a fact holds of the value, and facts of names agree with the world after
abbrev pub Fitting : Setting → Inferred → List Inferred → Array → World → Type 0
Fitting c x ns v w = Holds x v × Agreeing c ns w

abbrev pub FittingAll : Setting → List (Option Inferred) → List Inferred → List (Option Array) → World → Type 0
FittingAll c fs ns vs w = HoldsAll fs vs × Agreeing c ns w

-- an argument has a value where it has a fact
abbrev pub HoldsArgument : Option Inferred → Option Array → Type 0
HoldsArgument None None = Unit {0}
HoldsArgument None (Some v) = ⊥
HoldsArgument (Some x) None = ⊥
HoldsArgument (Some x) (Some v) = Holds x v

abbrev pub FittingArgument : Setting → Option Inferred → List Inferred → Option Array → World → Type 0
FittingArgument c o ns v w = HoldsArgument o v × Agreeing c ns w

-- ---- A node is given its value

pub fits_ready : (c : Setting) (i : ℕ) (u : Use) (n : ℕ) (v : Array) (s : State) (x : Inferred) (ns : List Inferred) → Agreeing c ns s.world → Holds x v → below x (c.family (cell.Node i)) ≡ true → Comes (Outside c) (Fitting c x ns) (ready (running c) i u n v s)
fits_ready c i u n v s x ns a p e =
    (p, record { size = a.size; globals = a.globals; locals = a.locals; given = every_push _ s.world.given _ a.given (holds_above x _ v e p) })

fits_filled : (c : Setting) (i n : ℕ) (d : Delayed) (cells : Result (List ℤ) FaultKind) (s : State) (x : Inferred) (ns : List Inferred) → Agreeing c ns s.world → HoldsOfCells x d.kind d.shape cells → below x (c.family (cell.Node i)) ≡ true → Comes (Outside c) (Fitting c x ns) (filled (running c) i n d cells s)
fits_filled c i n d (Ok zs) s x ns a p e =
    (p, record { size = a.size; globals = a.globals; locals = a.locals; given = every_push _ s.world.given _ a.given (holds_above x _ _ e p) })
fits_filled c i n d (Err f) s x ns a p e = (outside c.declared c.routine c.family ns s.world a, p)

fits_made : (c : Setting) (i : ℕ) (u : Use) (places applications : List ℕ → ℕ) (d : Prepared) (s : State) (x : Inferred) (ns : List Inferred) → Agreeing c ns s.world → HoldsOfPrepared x d → below x (c.family (cell.Node i)) ≡ true → Comes (Outside c) (Fitting c x ns) (made (running c) i u places applications d s)
fits_made c i u places applications (Err f) s x ns a p e = (outside c.declared c.routine c.family ns s.world a, p)
fits_made c i u places applications (Ok d) s x ns a p e =
    fits_filled c i _ d (cells_of d) _ x ns (record { size = a.size; globals = a.globals; locals = a.locals; given = a.given }) p e

pub fits_there : (c : Setting) (i : ℕ) (u : Use) (v : Option Array) (s : State) (x : Inferred) (ns : List Inferred) → Agreeing c ns s.world → HoldsOf x v → below x (c.family (cell.Node i)) ≡ true → Comes (Outside c) (Fitting c x ns) (there (running c) i u v s)
fits_there c i u None s x ns a p e = (outside c.declared c.routine c.family ns s.world a, not_rank fault.Value refl)
fits_there c i u (Some v) s x ns a p e = fits_ready c i u _ v s x ns a p e

pub fits_line : (c : Setting) (i : ℕ) (u : Use) (kind : Kind) (l : InputLine) (s : State) (x : Inferred) (ns : List Inferred) → Agreeing c ns s.world → IsFairLine l → ((zs : List ℤ) → Holds x (vector kind zs)) → below x (c.family (cell.Node i)) ≡ true → Comes (Outside c) (Fitting c x ns) (read_line (running c) i u kind l s)
fits_line c i u kind (Unread e) s x ns a fair h d = (outside c.declared c.routine c.family ns s.world a, fair)
fits_line c i u kind (Line zs rest) s x ns a fair h d =
    fits_ready c i u _ (vector kind zs) (on_world (λ w. record w { input = rest }) s) x ns (record { size = a.size; globals = a.globals; locals = a.locals; given = a.given }) (h zs) d

-- facts of names that are the same
pub same_names : (c : Setting) (w v : Progress) (u : World) → v ≡ w → Agreeing c w.names u → Agreeing c v.names u
same_names c w v u e a = subst (λ (p : Progress). Agreeing c p.names u) (sym e) a

-- by a rule that refuses nothing
pub fits_ruled : (c : Setting) (i p : ℕ) (r : Ruled) (w : Progress) (u : Use) (places applications : List ℕ → ℕ) (d : Prepared) (s : State) → Agreeing c w.names s.world → AreMet c.family (ruled i p r w).progress.demands → (ruled i p r w).progress.refused ≡ [] → HoldsOfPrepared (fact_of r) d → Comes (Outside c) (Fitting c (fact_of r) (ruled i p r w).progress.names) (made (running c) i u places applications d s)
fits_ruled c i p r w u places applications d s a met fine h =
    fits_made c i u places applications d s (fact_of r) (denied_by p r w).names (same_names c w (denied_by p r w) s.world (ruled_same p r w fine) a) h (met_right c.family (denied_by p r w).demands (demand (cell.Node i) (fact_of r) ∷ []) met).0

-- ---- Literals

always_none : (o : Outcome Array) → Always (IsLiteral None) o
always_none (Gives v s) = tt
always_none (Faulted e s) = tt
always_none (Going s) = tt

-- a node that is a literal gives its numbers
pub literal_value : (c : eager.Context) (t : Tree) (u : Use) (s : State) → Always (IsLiteral (literal_of t)) (value c t u s)
literal_value c (Numbers i p zs) u s = refl
literal_value c (Text i p cs) u s = tt
literal_value c (Name i p n) u s = always_none _
literal_value c (TextInput i p) u s = always_none _
literal_value c (NumsInput i p) u s = always_none _
literal_value c (Mono i p f b) u s = always_none _
literal_value c (Dyad i p f a b) u s = always_none _
literal_value c (Index i p a xs) u s = always_none _
literal_value c (Assign i p n a) u s = always_none _
literal_value c (AssignAt i p n xs a) u s = always_none _
literal_value c (Show i p a) u s = always_none _
literal_value c (Call i p n a b) u s = always_none _

-- ---- Nothing is mixed where nothing is refused

same_below : (ns : List Inferred) → NamesBelow ns ns
same_below [] = tt
same_below (x ∷ ns) = (below_refl x, same_below ns)

follows_itself : (g : Family) (w : Progress) → Follows g w w
follows_itself g w = record { names = same_below w.names; demands = λ m. m; fine = λ e. e }

pub tree_clear : (g : Family) (c : seeing.Context) → RulesRise c.origin → (t : Tree) (w : Progress) → (see c g t w).progress.refused ≡ [] → is_mixed (see c g t w).fact ≡ false
tree_clear g c rise t w fine = (see_rises g g (λ x. below_refl (g x)) c rise t w w (follows_itself g w)).clear fine

pub entries_clear : (g : Family) (c : seeing.Context) → RulesRise c.origin → (ts : Trees) (w : Progress) → (see_all c g ts w).progress.refused ≡ [] → any_fact is_mixed (see_all c g ts w).facts ≡ false
entries_clear g c rise ts w fine = (see_all_rises g g (λ x. below_refl (g x)) c rise ts w w (follows_itself g w)).clear fine

pub see_clear : (c : Setting) (t : Tree) (w : Progress) → (see (typing c) c.family t w).progress.refused ≡ [] → is_mixed (see (typing c) c.family t w).fact ≡ false
see_clear c t w fine = tree_clear c.family (typing c) c.rise t w fine

pub see_all_clear : (c : Setting) (ts : Trees) (w : Progress) → (see_all (typing c) c.family ts w).progress.refused ≡ [] → any_fact is_mixed (see_all (typing c) c.family ts w).facts ≡ false
see_all_clear c ts w fine = entries_clear c.family (typing c) c.rise ts w fine
