-- The kinds that indexed assignments are given in a run, where facts are read at the places of evaluation.
use Rattle.std.specs.Prelude.{◌≡◌, true, List, Option}
use Rattle.aplc_syntax.specs.PlainTrees.{Tree, Mono, Dyad, Index, Assign, AssignAt, Show, Call, Trees, no_more, left_out, and_tree, Argument, absent, given, id_of}
use Rattle.aplc_arr.specs.Arrays.{Array}
use Rattle.aplc_names.specs.PlainPrograms.{Action, nothing, quiet, perform, display, branch}
use Rattle.aplc_names.specs.States.{Giving}
use Rattle.aplc_infer.specs.Seeing.{Family, Context, Progress, name_fact, see, see_all, see_argument}
use Rattle.aplc_soundness.specs.Holding.{Holds}
use Rattle.aplc_soundness.specs.Taking.{takes_change, IsGiven, AreEntries}

-- Each indexed assignment in a tree is given entries of numbers, and a value of the kind of the name: of each array of which
-- the name's fact holds there, its own value among them.
abbrev mutual
  pub TakesChanges : Context → Family → List Giving → Tree → Progress → Type 0
  TakesChanges c g xs (Mono i p f b) w = TakesChanges c g xs b w
  TakesChanges c g xs (Dyad i p f a b) w = TakesChanges c g xs b w × TakesChanges c g xs a (see c g b w).progress
  TakesChanges c g xs (Index i p a ts) w = EntriesChange c g xs ts w × TakesChanges c g xs a (see_all c g ts w).progress
  TakesChanges c g xs (Assign i p n a) w = TakesChanges c g xs a w
  TakesChanges c g xs (AssignAt i p n ts a) w =
      ((old v : Array) (vs : List (Option Array)) → Holds (name_fact c g (c.binding n) n (see_all c g ts (see c g a w).progress).progress.names) old → IsGiven xs (id_of a) v → AreEntries xs ts vs → takes_change old.kind vs v.kind ≡ true)
      × TakesChanges c g xs a w × EntriesChange c g xs ts (see c g a w).progress
  TakesChanges c g xs (Show i p a) w = TakesChanges c g xs a w
  TakesChanges c g xs (Call i p n a b) w = ArgumentChanges c g xs b w × ArgumentChanges c g xs a (see_argument c g b w).progress
  TakesChanges c g xs t w = Unit {0}

  pub EntriesChange : Context → Family → List Giving → Trees → Progress → Type 0
  EntriesChange c g xs no_more w = Unit {0}
  EntriesChange c g xs (left_out ts) w = EntriesChange c g xs ts w
  EntriesChange c g xs (and_tree t ts) w = EntriesChange c g xs ts w × TakesChanges c g xs t (see_all c g ts w).progress

  pub ArgumentChanges : Context → Family → List Giving → Argument → Progress → Type 0
  ArgumentChanges c g xs absent w = Unit {0}
  ArgumentChanges c g xs (given t) w = TakesChanges c g xs t w

abbrev pub ActionChanges : Context → Family → List Giving → Action → Progress → Type 0
ActionChanges c g xs nothing w = Unit {0}
ActionChanges c g xs (quiet t) w = TakesChanges c g xs t w
ActionChanges c g xs (display t) w = TakesChanges c g xs t w
ActionChanges c g xs (branch p t) w = TakesChanges c g xs t w
ActionChanges c g xs (perform i p n a b) w = ArgumentChanges c g xs b w × ArgumentChanges c g xs a (see_argument c g b w).progress
