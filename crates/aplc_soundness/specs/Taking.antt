-- Which kinds the functions take; a value of another kind is a fault of its argument, DOMAIN.
use Rattle.std.specs.Prelude.{◌≡◌, ℕ, Bool, true, ◌&&◌, List, [], ◌∷◌, Option, Some, None, slice_get}
use Rattle.aplc_scalar.specs.declared.kind.Kind.{Kind}
use Rattle.aplc_scalar.specs.declared.kind.Kind.TheVariants as kind
use Rattle.aplc_syntax.specs.declared.tree.Primitive.{Primitive}
use Rattle.aplc_syntax.specs.declared.tree.Primitive.TheVariants as pr
use Rattle.aplc_syntax.specs.PlainTrees.{Tree, Mono, Dyad, Index, Assign, AssignAt, Show, Call, Trees, no_more, left_out, and_tree, Argument, absent, given, id_of}
use Rattle.aplc_names.specs.PlainPrograms.{Action, nothing, quiet, perform, display, branch}
use Rattle.aplc_names.specs.States.{Giving}
use Rattle.aplc_arr.specs.Arrays.{Array, kind_eq}
use Rattle.aplc_arr.specs.Each.{kinds_suit}
use Rattle.aplc_arr.specs.Indexing.{all_numbers}

abbrev pub is_num : Kind → Bool
is_num k = kind_eq k kind.Num

-- with one argument
abbrev pub takes_one : Primitive → Kind → Bool
takes_one (pr.Scalar g) k = is_num k
takes_one pr.Iota k = is_num k
takes_one (pr.Reduce g x) k = is_num k
takes_one (pr.Scan g x) k = is_num k
takes_one h k = true

-- with two
abbrev pub takes_two : Primitive → Kind → Kind → Bool
takes_two (pr.Scalar g) k l = kinds_suit g k l
takes_two pr.Ravel k l = kind_eq k l
takes_two pr.Iota k l = true
takes_two pr.Member k l = true
takes_two (pr.Outer g) k l = kinds_suit g k l
takes_two (pr.Inner f g) k l = is_num k && is_num l
takes_two h k l = is_num k

-- an indexed array with these entries, of which each that is not left out is numbers
abbrev pub takes_entries : List (Option Array) → Bool
takes_entries vs = all_numbers vs

-- an indexed assignment to a name of kind k of a value of kind l
abbrev pub takes_change : Kind → List (Option Array) → Kind → Bool
takes_change k vs l = all_numbers vs && kind_eq k l

-- ---- In a run

-- node i was given this value
pub record IsGiven (xs : List Giving) (i : ℕ) (v : Array) : Type 0 where
  pub index : ℕ
  pub here : slice_get xs index ≡ Some record { node = i; value = v }

-- the nodes of the entries of an index list, as many as are not left out
abbrev pub AreEntries : List Giving → Trees → List (Option Array) → Type 0
AreEntries xs no_more [] = Unit {0}
AreEntries xs (left_out ts) (None ∷ vs) = AreEntries xs ts vs
AreEntries xs (and_tree t ts) (Some v ∷ vs) = IsGiven xs (id_of t) v × AreEntries xs ts vs
AreEntries xs _ _ = ⊥

-- Each function in a tree takes the kinds of the values that the nodes of its arguments were given, whichever of them meet.
abbrev mutual
  pub TakesGiven : List Giving → Tree → Type 0
  TakesGiven xs (Mono i p f b) = ((v : Array) → IsGiven xs (id_of b) v → takes_one f v.kind ≡ true) × TakesGiven xs b
  TakesGiven xs (Dyad i p f a b) =
      ((v w : Array) → IsGiven xs (id_of a) v → IsGiven xs (id_of b) w → takes_two f v.kind w.kind ≡ true) × TakesGiven xs a × TakesGiven xs b
  TakesGiven xs (Index i p a ts) =
      ((v : Array) (vs : List (Option Array)) → IsGiven xs (id_of a) v → AreEntries xs ts vs → takes_entries vs ≡ true) × TakesGiven xs a × EntriesGiven xs ts
  TakesGiven xs (Assign i p n a) = TakesGiven xs a
  TakesGiven xs (AssignAt i p n ts a) = EntriesGiven xs ts × TakesGiven xs a
  TakesGiven xs (Show i p a) = TakesGiven xs a
  TakesGiven xs (Call i p n a b) = ArgumentGiven xs a × ArgumentGiven xs b
  TakesGiven xs t = Unit {0}

  pub EntriesGiven : List Giving → Trees → Type 0
  EntriesGiven xs no_more = Unit {0}
  EntriesGiven xs (left_out ts) = EntriesGiven xs ts
  EntriesGiven xs (and_tree t ts) = TakesGiven xs t × EntriesGiven xs ts

  pub ArgumentGiven : List Giving → Argument → Type 0
  ArgumentGiven xs absent = Unit {0}
  ArgumentGiven xs (given t) = TakesGiven xs t

-- so in a statement; a branch takes numbers
abbrev pub ActionGiven : List Giving → Action → Type 0
ActionGiven xs nothing = Unit {0}
ActionGiven xs (quiet t) = TakesGiven xs t
ActionGiven xs (display t) = TakesGiven xs t
ActionGiven xs (branch p t) = ((v : Array) → IsGiven xs (id_of t) v → is_num v.kind ≡ true) × TakesGiven xs t
ActionGiven xs (perform i p n a b) = ArgumentGiven xs a × ArgumentGiven xs b
