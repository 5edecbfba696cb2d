-- The steps of a line are those that a pass over its statement writes.
use Rattle.std.proofs.Common.{◌≡◌, ◌∙◌, ap, sym, refl, subst, ℕ, List, [], ◌∷◌, ◌++◌, append-nil}
use Rattle.std.specs.Prelude.{Some, None}
use Rattle.aplc_syntax.specs.PlainTrees.{Tree, Trees, Argument}
use Rattle.aplc_syntax.specs.PlainTrees as t
use Rattle.aplc_names.specs.PlainPrograms.{Action, nothing, quiet, perform, display, branch}
use Rattle.aplc_core.specs.PlainSteps.{Term, Slot, Effect, StoreAt, Show, Branch}
use Rattle.aplc_core.specs.Lowering.{Cut, CutList, kept, from_slot, before, cut, cut_list, cut_argument, change_steps, changed_by, changed_quietly, lowered}
use Rattle.aplc_core.specs.Passes.{Pass, next_number, no_pass, all_kept, ends, changes, performs, pass, pass_list, pass_argument, pass_quiet, pass_action}
use Rattle.aplc_core.proofs.Slots.{joined, kept_joined, list_joined}
use Rattle.aplc_core.proofs.PassForms.{IsMore, DoesList, calm_list, busy_list, then_kept, on_slots}
use Rattle.aplc_core.proofs.Entries.{Fits, cut_fits, list_back}
use Rattle.aplc_core.proofs.Calls.{arguments_end}
use Rattle.aplc_core.proofs.Passed.{does, does_list, does_argument}

ended : (w : Term → Effect) (x : Tree) → (ends next_number w (pass next_number x no_pass)).steps ≡ (cut x 0).steps ++ w (cut x 0).term ∷ []
ended w x = ap (λ (p : Pass). (ends next_number w p).steps) (on_slots (λ k. cut x k) (λ p. pass next_number x p) (does x) no_pass (record {}))

kept_quietly : (x : Tree) → (all_kept next_number (pass next_number x no_pass)).steps ≡ (kept (cut x 0)).steps
kept_quietly x = ap (λ (p : Pass). p.steps) (then_kept (λ k. cut x k) (λ p. pass next_number x p) (does x) no_pass)

before_more : (x : Cut) (ys : List Effect) → IsMore ys → before x ys ≡ from_slot (kept x)
before_more x [] h = elim h [ ]
before_more x (y ∷ ys) h = refl

module _ (i n : ℕ) (xs : Trees) (c : Cut) (h : Pass → Pass) where
  list_end : DoesList (λ k. cut_list xs k) h → (changes next_number i n xs (h (joined c no_pass))).steps ≡ changed_quietly i n c (cut_list xs)
  list_end (calm_list us e d) =
      ap (λ (p : Pass). (changes next_number i n xs p).steps) (d (joined c no_pass))
      ∙ ap (λ (p : Pass). p.steps) (list_back xs (λ ts. ends next_number (StoreAt i n ts)) c.steps c.next us (c.term ∷ []) (subst (λ (l : CutList). Fits xs l.terms) (e 0) (cut_fits xs 0)))
      ∙ ap (λ (ys : List Effect). ys ++ StoreAt i n us c.term ∷ []) (sym (append-nil c.steps))
      ∙ ap (change_steps i n c) (sym (e c.next))
      ∙ ap (λ (l : CutList). changed_by i n (cut_list xs) (before c l.steps)) (sym (e c.next))
  list_end (busy_list m d) =
      let k = kept c in
      let l = cut_list xs k.next in
      ap (λ (p : Pass). (changes next_number i n xs p).steps) (d (joined c no_pass) ∙ ap (λ (q : Pass). list_joined (cut_list xs q.free) q) (kept_joined c no_pass (record {})))
      ∙ ap (λ (p : Pass). p.steps) (list_back xs (λ ts. ends next_number (StoreAt i n ts)) (k.steps ++ l.steps) l.next l.terms (Slot k.node k.slot ∷ []) (cut_fits xs k.next))
      ∙ ap (changed_by i n (cut_list xs)) (sym (before_more c (cut_list xs c.next).steps (m c.next)))

changed_at : (i n : ℕ) (xs : Trees) (a : Tree) → (changes next_number i n xs (pass_list next_number xs (pass next_number a no_pass))).steps ≡ changed_quietly i n (cut a 0) (cut_list xs)
changed_at i n xs a =
    ap (λ (p : Pass). (changes next_number i n xs (pass_list next_number xs p)).steps) (on_slots (λ k. cut a k) (λ p. pass next_number a p) (does a) no_pass (record {}))
    ∙ list_end i n xs (cut a 0) (λ p. pass_list next_number xs p) (does_list xs)

quiet_is : (x : Tree) → (pass_quiet next_number x no_pass).steps ≡ lowered (quiet x)
quiet_is (t.Assign i q n a) = ap (λ (p : Pass). p.steps) (on_slots (λ k. cut (t.Assign i q n a) k) (λ p. pass next_number (t.Assign i q n a) p) (does (t.Assign i q n a)) no_pass (record {}))
quiet_is (t.AssignAt i q n xs a) = changed_at i n xs a
quiet_is (t.Show i q a) = ended (Show (Some i)) a
quiet_is (t.Numbers i q zs) = kept_quietly (t.Numbers i q zs)
quiet_is (t.Text i q cs) = kept_quietly (t.Text i q cs)
quiet_is (t.Name i q n) = kept_quietly (t.Name i q n)
quiet_is (t.TextInput i q) = kept_quietly (t.TextInput i q)
quiet_is (t.NumsInput i q) = kept_quietly (t.NumsInput i q)
quiet_is (t.Mono i q f b) = kept_quietly (t.Mono i q f b)
quiet_is (t.Dyad i q f a b) = kept_quietly (t.Dyad i q f a b)
quiet_is (t.Index i q a xs) = kept_quietly (t.Index i q a xs)
quiet_is (t.Call i q n a b) = kept_quietly (t.Call i q n a b)

pub steps_are_lowered : (x : Action) → (pass_action next_number x no_pass).steps ≡ lowered x
steps_are_lowered nothing = refl
steps_are_lowered (quiet x) = quiet_is x
steps_are_lowered (perform i q n a b) = ap (λ (p : Pass). p.steps) (arguments_end i n a b (λ k. cut_argument a k) (λ k. cut_argument b k) (λ p. pass_argument next_number b p) (λ p. pass_argument next_number a p) (performs next_number i n) (does_argument b) (does_argument a) no_pass (record {}))
steps_are_lowered (display x) = ended (Show None) x
steps_are_lowered (branch q x) = ended Branch x
