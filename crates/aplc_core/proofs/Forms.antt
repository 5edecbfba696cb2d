-- What the cut of each form comes to, where those of its parts come to what the parts are evaluated to.
use Rattle.std.proofs.Common.{◌≡◌, ◌∙◌, refl, sym, ap, subst, ℕ, ◌≤◌, List, [], ◌∷◌, ◌++◌, Option, Some, None, true, arith}
use Rattle.aplc_arr.specs.Arrays.{Array, product}
use Rattle.aplc_arr.specs.Indexing.{indexed}
use Rattle.aplc_syntax.specs.declared.tree.Primitive.{Primitive}
use Rattle.aplc_syntax.specs.PlainTrees.{Argument}
use Rattle.aplc_names.specs.Primitives.{mono_of, mono_applications, dyad_applications, places_listed}
use Rattle.aplc_names.specs.Primitives as primitive
use Rattle.aplc_names.specs.States.{State, Outcome, Gives, and_then, is_among}
use Rattle.aplc_names.specs.Eager.{Context, ready, made, none_for, there, value_of_name, assigned, put, change_there}
use Rattle.aplc_core.specs.PlainSteps.{Effect}
use Rattle.aplc_core.specs.CoreRuns.{Slots, Told, use_in, value_kept, into_slot, term_value, term_values, step_done}
use Rattle.aplc_core.specs.Lowering.{Cut, CutList, Kept, CutArgument, kept, kept_all, before, all_before, and_left_out, cut_dyad, cut_index, cut_more, cut_mono, cut_assign, cut_show, assign_at_of, call_of}
use Rattle.aplc_core.proofs.Carried.{next_into}
use Rattle.aplc_core.proofs.Cuts.{Fits, FitsList, FitsKept, FitsArgument, kept_fits, all_kept}
use Rattle.aplc_core.proofs.Comes.{ComesTo, Comes, ComesKept, Does, kept_comes, does_come, is_kept, comes_as, comes_then, two_come, two_kept}
use Rattle.aplc_core.proofs.KeptLists.{slot_values, same_slots, slots_give, list_kept}
use Rattle.aplc_core.proofs.Effects.{ArgumentComes, call_comes, called_eagerly, store_comes, show_kept, store_at_kept, call_kept}

module _ (c : Context) (l : Told) where
  abbrev pub CutDoes : ℕ → Cut → (State → Outcome Array) → Type 0
  CutDoes k x r = Does c l k x.steps x.term r

  abbrev pub ListDoes : ℕ → CutList → (State → Outcome (List (Option Array))) → Type 0
  ListDoes k x r = ComesTo c l k x.steps (λ a s. term_values c l a x.terms s) r

  abbrev pub KeptDoes : ℕ → Kept → (State → Outcome Array) → Type 0
  KeptDoes k x r = ComesKept c l k x.steps x.node x.slot r

  pub kept_does : (k : ℕ) (x : Cut) (r : State → Outcome Array) → Fits k x → CutDoes k x r → KeptDoes k (kept x) r
  kept_does k x r fits h = is_kept c l k x.next x.steps x.term r fits.next h

  kept_next : (k n : ℕ) (x : Kept) → FitsKept k n x → k ≤ x.next
  kept_next k n x h = let p = h.over in let q = h.under in omega (arith, p, q)

  -- ---- Input

  -- a step that puts something into its slot
  pub input_does : (k i : ℕ) (x : Effect) (r : State → Outcome Array) → ((a : Slots) (s : State) → step_done c l x a s ≡ into_slot k i a (r s)) → ComesKept c l k (x ∷ []) i k r
  input_does k i x r e next reads slots s =
      ap (λ o. and_then o (λ a t. next a (a k) t)) (e slots s) ∙ next_into k k i next reads (omega arith) (r s) slots

  -- ---- Primitives

  pub mono_does : (k i : ℕ) (f : Primitive) (y : Cut) (r : State → Outcome Array) → CutDoes k y r → CutDoes k (cut_mono i f y) (λ s. and_then (r s) (λ v t. made c i (use_in l i) none_for (mono_applications c.origin f v.shape) (mono_of c.origin f v) t))
  mono_does k i f y r h =
      comes_then c l k y.steps (λ a s. term_value c l a y.term s) r (λ v t. made c i (use_in l i) none_for (mono_applications c.origin f v.shape) (mono_of c.origin f v) t) (does_come c l k y.steps y.term r h)

  abbrev pub dyad_made : ℕ → Primitive → Array → Array → State → Outcome Array
  dyad_made i f y x s =
      made c i (use_in l i) (places_listed c.origin f x.shape) (dyad_applications c.origin f x.shape y.shape) (primitive.dyad_of c.origin f x y) s

  -- what a tree comes to and then something else, where g is made of both
  pub two_of_tree : {B D : Type 0} (k : ℕ) (y : Cut) (steps : ℕ → List Effect) (f : ℕ → Slots → State → Outcome B) (r : State → Outcome Array) (p : State → Outcome B) (g : Array → B → State → Outcome D) → Fits k y → CutDoes k y r → ((n : ℕ) → ComesTo c l n (steps n) (f n) p) → (ys : List Effect) → steps y.next ≡ ys → ComesTo c l k ((before y ys).steps ++ steps (before y ys).next) (λ a s. and_then (term_value c l a (before y ys).term s) (λ v t. and_then (f (before y ys).next a t) (λ w u. g v w u))) (λ s. and_then (r s) (λ v t. and_then (p t) (λ w u. g v w u)))
  two_of_tree k y steps f r p g fits h m [] e =
      let q : ComesTo c l y.next [] (f y.next) p = subst (λ xs. ComesTo c l y.next xs (f y.next) p) e (m y.next) in
      subst (λ xs. ComesTo c l k (y.steps ++ xs) (λ a s. and_then (term_value c l a y.term s) (λ v t. and_then (f y.next a t) (λ w u. g v w u))) (λ s. and_then (r s) (λ v t. and_then (p t) (λ w u. g v w u)))) (sym e)
      (two_come c l k y.next y.steps (λ a s. term_value c l a y.term s) (f y.next) r p g fits.next (does_come c l k y.steps y.term r h) q)
  two_of_tree k y steps f r p g fits h m (z ∷ zs) e =
      let b : Kept = kept y in
      let kf = kept_fits k y fits in
      two_kept c l k b.next b.steps (steps b.next) (λ a. value_kept b.node (a b.slot)) (f b.next) r p g (kept_next k y.next b kf) (λ a d q. ap (value_kept b.node) (q b.slot kf.under)) (kept_comes c l k b.steps b.node b.slot r (kept_does k y r fits h)) (m b.next)

  pub dyad_does : (k i : ℕ) (f : Primitive) (y : Cut) (more : ℕ → Cut) (r p : State → Outcome Array) → Fits k y → CutDoes k y r → ((n : ℕ) → CutDoes n (more n) p) → CutDoes k (cut_dyad i f y more) (λ s. and_then (r s) (λ v t. and_then (p t) (λ w u. dyad_made i f v w u)))
  dyad_does k i f y more r p fits h g =
      two_of_tree k y (λ n. (more n).steps) (λ n a s. term_value c l a (more n).term s) r p (dyad_made i f) fits h (λ n. does_come c l n (more n).steps (more n).term p (g n)) (more y.next).steps refl

  -- ---- Lists

  pub left_does : (k : ℕ) (js : CutList) (r : State → Outcome (List (Option Array))) → ListDoes k js r → ListDoes k (and_left_out js) (λ s. and_then (r s) (λ vs t. Gives (None ∷ vs) t))
  left_does k js r h = comes_then c l k js.steps (λ a s. term_values c l a js.terms s) r (λ vs t. Gives (None ∷ vs) t) h

  -- what a list comes to and then a tree, where g is made of both
  two_of_list : {B : Type 0} (k : ℕ) (js : CutList) (more : ℕ → Cut) (r : State → Outcome (List (Option Array))) (p : State → Outcome Array) (g : List (Option Array) → Array → State → Outcome B) → FitsList k js → ListDoes k js r → ((n : ℕ) → CutDoes n (more n) p) → (ys : List Effect) → (more js.next).steps ≡ ys → ComesTo c l k ((all_before js ys).steps ++ (more (all_before js ys).next).steps) (λ a s. and_then (term_values c l a (all_before js ys).terms s) (λ vs t. and_then (term_value c l a (more (all_before js ys).next).term t) (λ v u. g vs v u))) (λ s. and_then (r s) (λ vs t. and_then (p t) (λ v u. g vs v u)))
  two_of_list k js more r p g fits h m [] e =
      let x : Cut = more js.next in
      let q : Comes c l js.next [] x.term p = subst (λ xs. Comes c l js.next xs x.term p) e (does_come c l js.next x.steps x.term p (m js.next)) in
      subst (λ xs. ComesTo c l k (js.steps ++ xs) (λ a s. and_then (term_values c l a js.terms s) (λ vs t. and_then (term_value c l a x.term t) (λ v u. g vs v u))) (λ s. and_then (r s) (λ vs t. and_then (p t) (λ v u. g vs v u)))) (sym e)
      (two_come c l k js.next js.steps (λ a s. term_values c l a js.terms s) (λ a s. term_value c l a x.term s) r p g fits.next h q)
  two_of_list k js more r p g fits h m (z ∷ zs) e =
      let b : CutList = kept_all js in
      let x : Cut = more b.next in
      let fs = all_kept k js fits in
      let le1 = fits.next in
      let le2 = fs.next in
      comes_as c l k (b.steps ++ x.steps) (λ a s. and_then (term_value c l a x.term s) (λ v u. g (slot_values a b.terms) v u)) (λ a s. and_then (term_values c l a b.terms s) (λ vs t. and_then (term_value c l a x.term t) (λ v u. g vs v u))) (λ s. and_then (r s) (λ vs t. and_then (p t) (λ v u. g vs v u)))
      (λ a s. ap (λ o. and_then o (λ vs t. and_then (term_value c l a x.term t) (λ v u. g vs v u))) (slots_give c l b.next b.terms fs.slots a s))
      (two_kept c l k b.next b.steps x.steps (λ a. slot_values a b.terms) (λ a s. term_value c l a x.term s) r p g (omega (arith, le1, le2)) (λ a d q. same_slots b.next b.terms a d fs.slots q) (list_kept c l k js r fits h) (does_come c l b.next x.steps x.term p (m b.next)))

  pub more_does : (k : ℕ) (js : CutList) (more : ℕ → Cut) (r : State → Outcome (List (Option Array))) (p : State → Outcome Array) → FitsList k js → ListDoes k js r → ((n : ℕ) → CutDoes n (more n) p) → ListDoes k (cut_more js more) (λ s. and_then (r s) (λ vs t. and_then (p t) (λ v u. Gives (Some v ∷ vs) u)))
  more_does k js more r p fits h g = two_of_list k js more r p (λ vs v u. Gives (Some v ∷ vs) u) fits h g (more js.next).steps refl

  pub index_does : (k i : ℕ) (js : CutList) (more : ℕ → Cut) (r : State → Outcome (List (Option Array))) (p : State → Outcome Array) → FitsList k js → ListDoes k js r → ((n : ℕ) → CutDoes n (more n) p) → CutDoes k (cut_index i js more) (λ s. and_then (r s) (λ vs t. and_then (p t) (λ v u. made c i (use_in l i) none_for none_for (indexed c.origin v vs) u)))
  index_does k i js more r p fits h g =
      two_of_list k js more r p (λ vs v u. made c i (use_in l i) none_for none_for (indexed c.origin v vs) u) fits h g (more js.next).steps refl

  -- ---- Effects

  pub assign_does : (k i n : ℕ) (x : Cut) (r : State → Outcome Array) → is_among i l.assigned ≡ true → CutDoes k x r → CutDoes k (cut_assign i n x) (λ s. and_then (r s) (λ v t. ready c i (use_in l i) (product v.shape) v (assigned (c.scope n) n v t)))
  assign_does k i n x r e h = store_comes c l k i n x.steps x.term r e h

  pub show_does : (k n i : ℕ) (x : Kept) (r : State → Outcome Array) → FitsKept k n x → KeptDoes k x r → CutDoes k (cut_show i x) (λ s. and_then (r s) (λ v t. ready c i (use_in l i) 0 v (put v t)))
  show_does k n i x r fits h = show_kept c l k i x.node x.slot x.steps r fits.over h

  pub change_does : (k m i n : ℕ) (x : Kept) (js : CutList) (r : State → Outcome Array) (p : State → Outcome (List (Option Array))) → FitsKept k m x → KeptDoes k x r → ListDoes x.next js p → CutDoes k (assign_at_of i n x js) (λ s. and_then (r s) (λ v t. and_then (p t) (λ vs u. change_there c i (use_in l i) n vs v (value_of_name (c.scope n) n u.world) u)))
  change_does k m i n x js r p fits h g =
      store_at_kept c l k i n x.node x.slot (x.steps ++ js.steps) js.terms (λ s. and_then (r s) (λ v t. and_then (p t) (λ vs u. change_there c i (use_in l i) n vs v (value_of_name (c.scope n) n u.world) u))) fits.over
      (two_kept c l k x.next x.steps js.steps (λ a. value_kept x.node (a x.slot)) (λ a s. term_values c l a js.terms s) r p (λ v vs u. change_there c i (use_in l i) n vs v (value_of_name (c.scope n) n u.world) u) (kept_next k m x fits) (λ a d q. ap (value_kept x.node) (q x.slot fits.under)) (kept_comes c l k x.steps x.node x.slot r h) g)

  pub call_does : (k i n : ℕ) (y x : CutArgument) (a b : Argument) → FitsArgument k y → FitsArgument y.next x → ArgumentComes c l k y b → ArgumentComes c l y.next x a → CutDoes k (call_of i n y x) (λ s. and_then (called_eagerly c n a b s) (λ v t. there c i (use_in l i) v t))
  call_does k i n y x a b fy fx h g =
      let p = fy.next in
      let q = fx.next in
      call_kept c l k i n x.next (y.steps ++ x.steps) x.slot y.slot (λ s. called_eagerly c n a b s) (omega (arith, p, q)) (call_comes c l k n y x a b p fy.slot h g)
