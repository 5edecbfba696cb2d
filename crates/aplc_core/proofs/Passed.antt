-- A pass does what a cut says, at every tree.
use Rattle.std.proofs.Common.{refl, map}
use Rattle.std.specs.Prelude.{pos}
use Rattle.aplc_scalar.specs.declared.kind.Kind.TheVariants.{Num, Char}
use Rattle.aplc_syntax.specs.PlainTrees.{Tree, Trees, Argument, absent, given}
use Rattle.aplc_syntax.specs.PlainTrees as t
use Rattle.aplc_core.specs.PlainSteps.{Literal, Read, Mono, no_more}
use Rattle.aplc_core.specs.Lowering.{kept, cut, cut_list, cut_argument}
use Rattle.aplc_core.specs.Passes.{next_number, pass, pass_list, pass_argument}
use Rattle.aplc_core.proofs.PassForms.{Does, calm, busy, DoesList, calm_list, then_kept, does_top, does_dyad, does_assign, does_show}
use Rattle.aplc_core.proofs.Entries.{does_index, does_more, does_left_out}
use Rattle.aplc_core.proofs.Calls.{DoesArgument, none, one, does_assign_at, does_call}

mutual
  pub does : (x : Tree) → Does (λ k. cut x k) (λ p. pass next_number x p)
  does (t.Numbers i q zs) = calm (Literal i Num zs) (λ k. refl) (λ p. refl)
  does (t.Text i q cs) = calm (Literal i Char (map pos cs)) (λ k. refl) (λ p. refl)
  does (t.Name i q n) = calm (Read i n) (λ k. refl) (λ p. refl)
  does (t.TextInput i q) = busy (λ k. record {}) (λ p. refl)
  does (t.NumsInput i q) = busy (λ k. record {}) (λ p. refl)
  does (t.Mono i q f b) = does_top (Mono i f) (λ k. cut b k) (λ p. pass next_number b p) (does b)
  does (t.Dyad i q f a b) = does_dyad i f (λ k. cut b k) (λ k. cut a k) (λ p. pass next_number b p) (λ p. pass next_number a p) (does b) (does a)
  does (t.Index i q a xs) = does_index i xs (λ k. cut a k) (λ p. pass_list next_number xs p) (λ p. pass next_number a p) (does_list xs) (does a)
  does (t.Assign i q n a) = does_assign i n (λ k. cut a k) (λ p. pass next_number a p) (does a)
  does (t.AssignAt i q n xs a) = does_assign_at i n xs (λ k. cut a k) (λ p. pass next_number a p) (λ p. pass_list next_number xs p) (does_list xs) (does a)
  does (t.Show i q a) = does_show i (λ k. cut a k) (λ p. pass next_number a p) (does a)
  does (t.Call i q n a b) = does_call i n a b (λ k. cut_argument a k) (λ k. cut_argument b k) (λ p. pass_argument next_number b p) (λ p. pass_argument next_number a p) (does_argument b) (does_argument a)

  pub does_list : (xs : Trees) → DoesList (λ k. cut_list xs k) (λ p. pass_list next_number xs p)
  does_list t.no_more = calm_list no_more (λ k. refl) (λ p. refl)
  does_list (t.left_out xs) = does_left_out (λ k. cut_list xs k) (λ p. pass_list next_number xs p) (does_list xs)
  does_list (t.and_tree x xs) = does_more 0 xs (λ k. cut x k) (λ p. pass_list next_number xs p) (λ p. pass next_number x p) (does_list xs) (does x)

  pub does_argument : (a : Argument) → DoesArgument a (λ k. cut_argument a k) (λ p. pass_argument next_number a p)
  does_argument absent = none refl (λ k. refl) (λ p. refl)
  does_argument (given x) = one x refl (λ k. kept (cut x k)) (λ k. refl) (λ p. then_kept (λ k. cut x k) (λ p. pass next_number x p) (does x) p)
