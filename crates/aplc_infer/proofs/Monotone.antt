-- What the evaluation of a line asks and refuses rises with the family of facts.
use Rattle.std.proofs.Common.{◌≡◌, ◌∙◌, sym, refl, ℕ, zero, suc, List, [], ◌∷◌, ◌++◌, Option, Some, None, Ok, Err, Bool, true, false, ◌||◌, set}
use Rattle.std.specs.Prelude.{unwrap_or}
use Rattle.aplc_syntax.specs.PlainTrees.{Tree, Numbers, Text, Name, TextInput, NumsInput, Mono, Dyad, Index, Assign, AssignAt, Show, Call, Trees, no_more, left_out, and_tree, Argument, absent, given}
use Rattle.aplc_arr.specs.Delayed.{first_n}
use Rattle.aplc_names.specs.PlainPrograms.{Action, nothing, quiet, perform, display, branch}
use Rattle.aplc_infer.specs.declared.fact.Inferred.{Inferred}
use Rattle.aplc_infer.specs.declared.fact.Inferred.TheVariants.{Unset, Of}
use Rattle.aplc_infer.specs.declared.rule_break.RuleBreak.{RuleBreak}
use Rattle.aplc_infer.specs.declared.rule_break.RuleBreak.TheVariants as breaks
use Rattle.aplc_infer.specs.declared.cell.Cell.{Cell}
use Rattle.aplc_infer.specs.declared.cell.Cell.TheVariants as cell
use Rattle.aplc_infer.specs.declared.cell.Demand.{Demand}
use Rattle.aplc_infer.specs.declared.cell.Binding.{Binding}
use Rattle.aplc_infer.specs.declared.cell.Binding.TheVariants as binds
use Rattle.aplc_infer.specs.Facts.{below, mixed, is_unset, is_mixed, settled}
use Rattle.aplc_infer.specs.Rules.{Ruled, fact_of, sort, strict1, any_fact, literal_of, literal_kind, literal_lengths, numbers_fact, text_fact, input_text_fact, input_numbers_fact, monadic_rule, dyadic_rule, index_rule, change_rule, monadic_fact, dyadic_fact, index_fact, change_fact, left_fact, branch_rule, branch_fact}
use Rattle.aplc_infer.specs.Orders.{below_result, clear_result, entries_below, IsRising1}
use Rattle.aplc_infer.specs.Seeing.{Family, Context, Progress, Seen, SeenAll, SeenArgument, demand, asked, asked_for, denied, denied_by, denied_if, denied_read, mixed_break, with_name, settles, ruled, at, name_fact, assign_declared, assign_global, assign_to, function_of, call_by, call_fact, passed, see, see_all, see_argument, see_statement}
use Rattle.aplc_infer.specs.Families.{AreMet, IsBelow}
use Rattle.aplc_infer.specs.RulesRise.{RulesRise}
use Rattle.aplc_infer.proofs.Trials.{both_true, left_true, unequal, not_true}
use Rattle.aplc_infer.proofs.Order.{below_refl, below_trans}
use Rattle.aplc_infer.proofs.Strict.{below_mixed, below_clear, sort_rises, clear_sort, strict1_facts, strict1_fine, strict1_clear, strict2_facts, strict2_fine, strict2_clear, strict_list_facts, strict_list_fine, strict_list_clear, settled_rises, settled_clear, neither, unset_entries, clear_entries}

-- ---- Lists of facts

-- each of the local names has a fact below the other's
abbrev pub NamesBelow : List Inferred → List Inferred → Type 0
NamesBelow [] [] = Unit {0}
NamesBelow [] (y ∷ ys) = ⊥
NamesBelow (x ∷ xs) [] = ⊥
NamesBelow (x ∷ xs) (y ∷ ys) = (below x y ≡ true) × NamesBelow xs ys

pub names_at : (xs ys : List Inferred) → NamesBelow xs ys → (k : ℕ) → below (at xs k) (at ys k) ≡ true
names_at [] [] h k = refl
names_at [] (y ∷ ys) h k = absurd h
names_at (x ∷ xs) [] h k = absurd h
names_at (x ∷ xs) (y ∷ ys) h zero = h.0
names_at (x ∷ xs) (y ∷ ys) h (suc k) = names_at xs ys h.1 k

pub names_set : (xs ys : List Inferred) (k : ℕ) (x y : Inferred) → NamesBelow xs ys → below x y ≡ true → NamesBelow (set xs k x) (set ys k y)
names_set [] [] k x y h p = tt
names_set [] (b ∷ ys) k x y h p = absurd h
names_set (a ∷ xs) [] k x y h p = absurd h
names_set (a ∷ xs) (b ∷ ys) zero x y h p = (p, h.1)
names_set (a ∷ xs) (b ∷ ys) (suc k) x y h p = (h.0, names_set xs ys k x y h.1 p)

names_push : (xs ys : List Inferred) (x y : Inferred) → NamesBelow xs ys → below x y ≡ true → NamesBelow (xs ++ x ∷ []) (ys ++ y ∷ [])
names_push [] [] x y h p = (p, tt)
names_push [] (b ∷ ys) x y h p = absurd h
names_push (a ∷ xs) [] x y h p = absurd h
names_push (a ∷ xs) (b ∷ ys) x y h p = (h.0, names_push xs ys x y h.1 p)

pub names_first : (f g : ℕ → Inferred) (n : ℕ) → ((k : ℕ) → below (f k) (g k) ≡ true) → NamesBelow (first_n f n) (first_n g n)
names_first f g zero h = tt
names_first f g (suc n) h = names_push (first_n f n) (first_n g n) (f n) (g n) (names_first f g n h) (h n)

-- ---- Demands and refusals

pub met_left : (h : Family) (xs ys : List Demand) → AreMet h (xs ++ ys) → AreMet h xs
met_left h [] ys m = tt
met_left h (x ∷ xs) ys m = (m.0, met_left h xs ys m.1)

pub met_right : (h : Family) (xs ys : List Demand) → AreMet h (xs ++ ys) → AreMet h ys
met_right h [] ys m = m
met_right h (x ∷ xs) ys m = met_right h xs ys m.1

pub met_both : (h : Family) (xs ys : List Demand) → AreMet h xs → AreMet h ys → AreMet h (xs ++ ys)
met_both h [] ys m n = n
met_both h (x ∷ xs) ys m n = (m.0, met_both h xs ys m.1 n)

one_more : {A : Type 0} (xs : List A) (x : A) → xs ++ x ∷ [] ≡ [] → ⊥
one_more [] x e = cc
one_more (y ∷ xs) x e = cc

-- v under a lower family, w under a higher one that h is: a refusal above is needed for one below
pub record Follows (h : Family) (v w : Progress) : Type 0 where
  pub names : NamesBelow v.names w.names
  pub demands : AreMet h w.demands → AreMet h v.demands
  pub fine : w.refused ≡ [] → v.refused ≡ []

-- the same of what is known of a node, where w stood before it; what is not refused is not mixed
pub record Rises (h : Family) (w : Progress) (s t : Seen) : Type 0 where
  pub fact : below s.fact t.fact ≡ true
  pub progress : Follows h s.progress t.progress
  pub kept : t.progress.refused ≡ [] → w.refused ≡ []
  pub clear : t.progress.refused ≡ [] → is_mixed t.fact ≡ false

pub record RisesAll (h : Family) (w : Progress) (s t : SeenAll) : Type 0 where
  pub facts : entries_below s.facts t.facts ≡ true
  pub progress : Follows h s.progress t.progress
  pub kept : t.progress.refused ≡ [] → w.refused ≡ []
  pub clear : t.progress.refused ≡ [] → any_fact is_mixed t.facts ≡ false

pub record RisesArgument (h : Family) (w : Progress) (s t : SeenArgument) : Type 0 where
  pub fact : entries_below (s.fact ∷ []) (t.fact ∷ []) ≡ true
  pub progress : Follows h s.progress t.progress
  pub kept : t.progress.refused ≡ [] → w.refused ≡ []
  pub clear : t.progress.refused ≡ [] → any_fact is_mixed (t.fact ∷ []) ≡ false

-- ---- Steps

ask_follows : (h : Family) (c : Cell) (x y : Inferred) (v w : Progress) → below x y ≡ true → Follows h v w → Follows h (asked c x v) (asked c y w)
ask_follows h c x y v w p f = record {
  names = f.names;
  demands = λ m. met_both h v.demands (demand c x ∷ []) (f.demands (met_left h w.demands (demand c y ∷ []) m)) (below_trans x y (h c) p (met_right h w.demands (demand c y ∷ []) m).0, tt);
  fine = f.fine;
}

deny_follows : (h : Family) (p : ℕ) (r r' : Ruled) (v w : Progress) → (w.refused ≡ [] → below_result r r' ≡ true) → Follows h v w → Follows h (denied_by p r v) (denied_by p r' w)
deny_follows h p (Ok x) (Ok y) v w b f = f
deny_follows h p (Ok x) (Err e) v w b f = record { names = f.names; demands = f.demands; fine = λ q. absurd (one_more w.refused _ q) }
deny_follows h p (Err d) (Ok y) v w b f = record { names = f.names; demands = f.demands; fine = λ q. absurd (unequal (sym (b q))) }
deny_follows h p (Err d) (Err e) v w b f = record { names = f.names; demands = f.demands; fine = λ q. absurd (one_more w.refused _ q) }

deny_kept : (p : ℕ) (r : Ruled) (w : Progress) → (denied_by p r w).refused ≡ [] → w.refused ≡ []
deny_kept p (Ok x) w q = q
deny_kept p (Err e) w q = absurd (one_more w.refused _ q)

-- a rule that gives something clear, where it refuses nothing
deny_clear : (p : ℕ) (r : Ruled) (w : Progress) → (w.refused ≡ [] → clear_result r ≡ true) → (denied_by p r w).refused ≡ [] → is_mixed (fact_of r) ≡ false
deny_clear p (Ok x) w c q = not_true (is_mixed x) (c q)
deny_clear p (Err e) w c q = absurd (one_more w.refused _ q)

read_follows_if : (a b : Bool) (h : Family) (p : ℕ) (d e : RuleBreak) (v w : Progress) → (b ≡ false → a ≡ false) → Follows h v w → Follows h (denied_if a p d v) (denied_if b p e w)
read_follows_if false false h p d e v w i f = f
read_follows_if true false h p d e v w i f = absurd (unequal (i refl))
read_follows_if false true h p d e v w i f = record { names = f.names; demands = f.demands; fine = λ q. absurd (one_more w.refused _ q) }
read_follows_if true true h p d e v w i f = record { names = f.names; demands = f.demands; fine = λ q. absurd (one_more w.refused _ q) }

read_follows : (h : Family) (p : ℕ) (x y : Inferred) (v w : Progress) → below x y ≡ true → Follows h v w → Follows h (denied_read p x v) (denied_read p y w)
read_follows h p x y v w b f = read_follows_if (is_mixed x) (is_mixed y) h p (mixed_break x) (mixed_break y) v w (λ m. below_clear x y b m) f

read_kept_if : (b : Bool) (p : ℕ) (e : RuleBreak) (w : Progress) → (denied_if b p e w).refused ≡ [] → w.refused ≡ []
read_kept_if false p e w q = q
read_kept_if true p e w q = absurd (one_more w.refused _ q)

read_kept : (p : ℕ) (y : Inferred) (w : Progress) → (denied_read p y w).refused ≡ [] → w.refused ≡ []
read_kept p y w q = read_kept_if (is_mixed y) p (mixed_break y) w q

read_clear_if : (b : Bool) (p : ℕ) (e : RuleBreak) (w : Progress) → (denied_if b p e w).refused ≡ [] → b ≡ false
read_clear_if false p e w q = refl
read_clear_if true p e w q = absurd (one_more w.refused _ q)

read_clear : (p : ℕ) (y : Inferred) (w : Progress) → (denied_read p y w).refused ≡ [] → is_mixed y ≡ false
read_clear p y w q = read_clear_if (is_mixed y) p (mixed_break y) w q

set_follows : (h : Family) (k : ℕ) (x y : Inferred) (v w : Progress) → below x y ≡ true → Follows h v w → Follows h (with_name k x v) (with_name k y w)
set_follows h k x y v w p f = record { names = names_set v.names w.names k x y f.names p; demands = f.demands; fine = f.fine }

-- a node is settled after what stood at w0
settles_rises : (h : Family) (w0 : Progress) (i : ℕ) (x y : Inferred) (v w : Progress) → below x y ≡ true → Follows h v w → (w.refused ≡ [] → w0.refused ≡ []) → (w.refused ≡ [] → is_mixed y ≡ false) → Rises h w0 (settles i x v) (settles i y w)
settles_rises h w0 i x y v w p f k c = record { fact = p; progress = ask_follows h (cell.Node i) x y v w p f; kept = k; clear = c }

-- a rule is applied
ruled_rises : (h : Family) (w0 : Progress) (i p : ℕ) (r r' : Ruled) (v w : Progress) → below (fact_of r) (fact_of r') ≡ true → (w.refused ≡ [] → below_result r r' ≡ true) → (w.refused ≡ [] → clear_result r' ≡ true) → Follows h v w → (w.refused ≡ [] → w0.refused ≡ []) → Rises h w0 (ruled i p r v) (ruled i p r' w)
ruled_rises h w0 i p r r' v w b up c f k =
    settles_rises h w0 i (fact_of r) (fact_of r') (denied_by p r v) (denied_by p r' w) b (deny_follows h p r r' v w up f) (λ q. k (deny_kept p r' w q)) (λ q. deny_clear p r' w c q)

-- ---- Names

module _ (h : Family) (w0 : Progress) (i p n : ℕ) (new new' x x' : Inferred) (v w : Progress) (nb : below new new' ≡ true) (xb : below x x' ≡ true) (f : Follows h v w) (k : w.refused ≡ [] → w0.refused ≡ []) (c : w.refused ≡ [] → is_mixed x' ≡ false) where
  declared_rises : (a b : Bool) → (b ≡ true → a ≡ true) → Rises h w0 (assign_declared a i p x v) (assign_declared b i p x' w)
  declared_rises true true u = settles_rises h w0 i x x' v w xb f k c
  declared_rises false true u = absurd (unequal (sym (u refl)))
  declared_rises true false u =
      settles_rises h w0 i x mixed v (denied p breaks.Declared w) (below_mixed x) (record { names = f.names; demands = f.demands; fine = λ q. absurd (one_more w.refused _ q) }) (λ q. absurd (one_more w.refused _ q)) (λ q. absurd (one_more w.refused _ q))
  declared_rises false false u = ruled_rises h w0 i p (Err breaks.Declared) (Err breaks.Declared) v w refl (λ q. refl) (λ q. refl) f k

  global_rises : (o : Option Inferred) → Rises h w0 (assign_global o i p n new x v) (assign_global o i p n new' x' w)
  global_rises None = settles_rises h w0 i x x' (asked (cell.Global n) new v) (asked (cell.Global n) new' w) xb (ask_follows h (cell.Global n) new new' v w nb f) k c
  global_rises (Some d) = declared_rises (below new d) (below new' d) (λ q. below_trans new new' d nb q)

  assign_rises : (d : Context) (b : Binding) → Rises h w0 (assign_to d b i p n new x v) (assign_to d b i p n new' x' w)
  assign_rises d (binds.Local j) = settles_rises h w0 i x x' (with_name j new v) (with_name j new' w) xb (set_follows h j new new' v w nb f) k c
  assign_rises d (binds.Label z) = global_rises (d.declared n)
  assign_rises d (binds.Function j) = global_rises (d.declared n)
  assign_rises d binds.Global = global_rises (d.declared n)

-- ---- Calls

call_rises_by : (u u' m m' : Bool) (x y : Inferred) → (u' ≡ true → u ≡ true) → (m' ≡ false → m ≡ false) → below x y ≡ true → below (call_by u m x) (call_by u' m' y) ≡ true
call_rises_by true u' m m' x y a b p = refl
call_rises_by false true m m' x y a b p = absurd (unequal (sym (a refl)))
call_rises_by false false m true x y a b p = below_mixed (call_by false m x)
call_rises_by false false true false x y a b p = absurd (unequal (b refl))
call_rises_by false false false false x y a b p = p

two_entries : (a a' b b' : Option Inferred) → entries_below (a ∷ []) (a' ∷ []) ≡ true → entries_below (b ∷ []) (b' ∷ []) ≡ true → entries_below (a ∷ b ∷ []) (a' ∷ b' ∷ []) ≡ true
two_entries None None b b' p q = q
two_entries None (Some y) b b' p q = cc
two_entries (Some x) None b b' p q = cc
two_entries (Some x) (Some y) b b' p q = both_true (below x y) (entries_below (b ∷ []) (b' ∷ [])) (left_true (below x y) true p) q

call_fact_rises : (a a' b b' : Option Inferred) (x y : Inferred) → entries_below (a ∷ []) (a' ∷ []) ≡ true → entries_below (b ∷ []) (b' ∷ []) ≡ true → below x y ≡ true → below (call_fact a b x) (call_fact a' b' y) ≡ true
call_fact_rises a a' b b' x y p q r =
    call_rises_by (any_fact is_unset (a ∷ b ∷ [])) (any_fact is_unset (a' ∷ b' ∷ [])) (any_fact is_mixed (a ∷ b ∷ [])) (any_fact is_mixed (a' ∷ b' ∷ [])) x y
    (λ e. unset_entries (a ∷ b ∷ []) (a' ∷ b' ∷ []) (two_entries a a' b b' p q) e) (λ e. clear_entries (a ∷ b ∷ []) (a' ∷ b' ∷ []) (two_entries a a' b b' p q) e) r

ask_for_follows : (h : Family) (c : Cell) (a b : Option Inferred) (v w : Progress) → entries_below (a ∷ []) (b ∷ []) ≡ true → Follows h v w → Follows h (asked_for c a v) (asked_for c b w)
ask_for_follows h c None None v w p f = f
ask_for_follows h c None (Some y) v w p f = cc
ask_for_follows h c (Some x) None v w p f = cc
ask_for_follows h c (Some x) (Some y) v w p f = ask_follows h c x y v w (left_true (below x y) true p) f

passed_follows : (h : Family) (j : ℕ) (a a' b b' : Option Inferred) (v w : Progress) → entries_below (a ∷ []) (a' ∷ []) ≡ true → entries_below (b ∷ []) (b' ∷ []) ≡ true → Follows h v w → Follows h (passed j a b v) (passed j a' b' w)
passed_follows h j a a' b b' v w p q f = ask_for_follows h (cell.Right j) b b' (asked_for (cell.Left j) a v) (asked_for (cell.Left j) a' w) q (ask_for_follows h (cell.Left j) a a' v w p f)

ask_for_kept : (c : Cell) (a : Option Inferred) (w : Progress) → (asked_for c a w).refused ≡ w.refused
ask_for_kept c None w = refl
ask_for_kept c (Some x) w = refl

passed_kept : (j : ℕ) (a b : Option Inferred) (w : Progress) → (passed j a b w).refused ≡ [] → w.refused ≡ []
passed_kept j a b w q = sym (ask_for_kept (cell.Left j) a w) ∙ sym (ask_for_kept (cell.Right j) b (asked_for (cell.Left j) a w)) ∙ q

-- ---- Literals

numbers_clear : (b : Bool) (xs : List (Option ℕ)) → is_mixed (Of (literal_kind b) (Some xs)) ≡ false
numbers_clear true xs = refl
numbers_clear false xs = refl

-- ---- Trees

global_below : (o : Option Inferred) (x y : Inferred) → below x y ≡ true → below (unwrap_or o x) (unwrap_or o y) ≡ true
global_below None x y p = p
global_below (Some d) x y p = below_refl d

module _ (g h : Family) (gh : IsBelow g h) (c : Context) (rules : RulesRise c.origin) where
  name_rises : (b : Binding) (n : ℕ) (ns ms : List Inferred) → NamesBelow ns ms → below (name_fact c g b n ns) (name_fact c h b n ms) ≡ true
  name_rises (binds.Local k) n ns ms q = names_at ns ms q k
  name_rises (binds.Label z) n ns ms q = refl
  name_rises (binds.Function j) n ns ms q = refl
  name_rises binds.Global n ns ms q = global_below (c.declared n) (g (cell.Global n)) (h (cell.Global n)) (gh (cell.Global n))

  -- an indexed assignment on what is known, of entries and a value that are set above and below
  change_inner : (fs gs : List (Option Inferred)) (y y' : Inferred) → entries_below fs gs ≡ true → below y y' ≡ true → any_fact is_unset (Some y ∷ fs) ≡ false → any_fact is_mixed (Some y' ∷ gs) ≡ false → IsRising1 (λ a xs. strict1 (change_rule fs a xs) (sort y)) (λ a xs. strict1 (change_rule gs a xs) (sort y'))
  change_inner fs gs y y' e b u m a a' xs xs' p q =
      strict1_fine (change_rule fs a xs) (change_rule gs a' xs') (λ l l' ys ys' r t. rules.change fs gs e (last_of (is_unset y) (any_fact is_unset fs) u) (last_of (is_mixed y') (any_fact is_mixed gs) m) a a' xs xs' l l' ys ys' p q r t) (sort y) (sort y') (sort_rises y y' b) (clear_sort y' (first_of (is_mixed y') (any_fact is_mixed gs) m))
    where
      last_of : (c d : Bool) → (c || d) ≡ false → d ≡ false
      last_of true d z = cc
      last_of false d z = z

      first_of : (c d : Bool) → (c || d) ≡ false → c ≡ false
      first_of true d z = cc
      first_of false d z = refl

  both_entries : (fs gs : List (Option Inferred)) (y y' : Inferred) → entries_below fs gs ≡ true → below y y' ≡ true → entries_below (Some y ∷ fs) (Some y' ∷ gs) ≡ true
  both_entries fs gs y y' e b = both_true (below y y') (entries_below fs gs) b e

  change_facts : (x x' : Inferred) (fs gs : List (Option Inferred)) (y y' : Inferred) → below x x' ≡ true → entries_below fs gs ≡ true → below y y' ≡ true → below (fact_of (change_fact x fs y)) (fact_of (change_fact x' gs y')) ≡ true
  change_facts x x' fs gs y y' a e b =
      strict_list_facts (λ k xs. strict1 (change_rule fs k xs) (sort y)) (λ k xs. strict1 (change_rule gs k xs) (sort y')) (Some y ∷ fs) (Some y' ∷ gs) (sort x) (sort x') (λ u m. change_inner fs gs y y' e b u m) (both_entries fs gs y y' e b) (sort_rises x x' a)

  change_fine : (x x' : Inferred) (fs gs : List (Option Inferred)) (y y' : Inferred) → below x x' ≡ true → entries_below fs gs ≡ true → below y y' ≡ true → is_mixed x' ≡ false → any_fact is_mixed gs ≡ false → is_mixed y' ≡ false → below_result (change_fact x fs y) (change_fact x' gs y') ≡ true
  change_fine x x' fs gs y y' a e b m n o =
      strict_list_fine (λ k xs. strict1 (change_rule fs k xs) (sort y)) (λ k xs. strict1 (change_rule gs k xs) (sort y')) (Some y ∷ fs) (Some y' ∷ gs) (sort x) (sort x') (λ u v. change_inner fs gs y y' e b u v) (both_entries fs gs y y' e b) (sort_rises x x' a) (clear_sort x' m) (neither (is_mixed y') (any_fact is_mixed gs) o n)

  change_clear : (x : Inferred) (fs : List (Option Inferred)) (y : Inferred) → is_mixed x ≡ false → any_fact is_mixed fs ≡ false → is_mixed y ≡ false → clear_result (change_fact x fs y) ≡ true
  change_clear x fs y m n o =
      strict_list_clear (λ k xs. strict1 (change_rule fs k xs) (sort y)) (λ k xs z. strict1_clear (change_rule fs k xs) (λ l ys t. rules.clear_change fs k xs l ys z t) y o) x (Some y ∷ fs) m (neither (is_mixed y) (any_fact is_mixed fs) o n)

  mutual
    pub see_rises : (t : Tree) (v w : Progress) → Follows h v w → Rises h w (see c g t v) (see c h t w)
    see_rises (Numbers i p zs) v w q = settles_rises h w i (numbers_fact zs) (numbers_fact zs) v w (below_refl (numbers_fact zs)) q (λ e. e) (λ e. numbers_clear _ (literal_lengths zs))
    see_rises (Text i p cs) v w q = settles_rises h w i (text_fact cs) (text_fact cs) v w (below_refl (text_fact cs)) q (λ e. e) (λ e. refl)
    see_rises (TextInput i p) v w q = settles_rises h w i input_text_fact input_text_fact v w refl q (λ e. e) (λ e. refl)
    see_rises (NumsInput i p) v w q = settles_rises h w i input_numbers_fact input_numbers_fact v w refl q (λ e. e) (λ e. refl)
    see_rises (Name i p n) v w q =
        let x = name_fact c g (c.binding n) n v.names in
        let x' = name_fact c h (c.binding n) n w.names in
        let b = name_rises (c.binding n) n v.names w.names q.names in
        settles_rises h w i x x' (denied_read p x v) (denied_read p x' w) b (read_follows h p x x' v w b q) (λ e. read_kept p x' w e) (λ e. read_clear p x' w e)
    see_rises (Mono i p f b) v w q =
        let s = see c g b v in
        let t = see c h b w in
        let y = see_rises b v w q in
        let rule = monadic_rule c.origin f (literal_of b) in
        let up = sort_rises s.fact t.fact y.fact in
        ruled_rises h w i p (monadic_fact c.origin f (literal_of b) s.fact) (monadic_fact c.origin f (literal_of b) t.fact) s.progress t.progress
        (strict1_facts rule rule (rules.monadic f (literal_of b)) (sort s.fact) (sort t.fact) up)
        (λ e. strict1_fine rule rule (rules.monadic f (literal_of b)) (sort s.fact) (sort t.fact) up (clear_sort t.fact (y.clear e)))
        (λ e. strict1_clear rule (rules.clear_monadic f (literal_of b)) t.fact (y.clear e))
        y.progress y.kept
    see_rises (Dyad i p f a b) v w q =
        let sy = see c g b v in
        let ty = see c h b w in
        let y = see_rises b v w q in
        let sx = see c g a sy.progress in
        let tx = see c h a ty.progress in
        let x = see_rises a sy.progress ty.progress y.progress in
        let rule = dyadic_rule c.origin f (literal_of a) in
        let upx = sort_rises sx.fact tx.fact x.fact in
        let upy = sort_rises sy.fact ty.fact y.fact in
        ruled_rises h w i p (dyadic_fact c.origin f (literal_of a) sx.fact sy.fact) (dyadic_fact c.origin f (literal_of a) tx.fact ty.fact) sx.progress tx.progress
        (strict2_facts rule (rules.dyadic f (literal_of a)) (sort sx.fact) (sort tx.fact) (sort sy.fact) (sort ty.fact) upx upy)
        (λ e. strict2_fine rule (rules.dyadic f (literal_of a)) (sort sx.fact) (sort tx.fact) (sort sy.fact) (sort ty.fact) upx upy (clear_sort tx.fact (x.clear e)) (clear_sort ty.fact (y.clear (x.kept e))))
        (λ e. strict2_clear rule (rules.clear_dyadic f (literal_of a)) tx.fact ty.fact (x.clear e) (y.clear (x.kept e)))
        x.progress (λ e. y.kept (x.kept e))
    see_rises (Index i p a xs) v w q =
        let sy = see_all c g xs v in
        let ty = see_all c h xs w in
        let y = see_all_rises xs v w q in
        let sx = see c g a sy.progress in
        let tx = see c h a ty.progress in
        let x = see_rises a sy.progress ty.progress y.progress in
        let up = sort_rises sx.fact tx.fact x.fact in
        ruled_rises h w i p (index_fact sx.fact sy.facts) (index_fact tx.fact ty.facts) sx.progress tx.progress
        (strict_list_facts (index_rule sy.facts) (index_rule ty.facts) sy.facts ty.facts (sort sx.fact) (sort tx.fact) (λ u m. rules.index sy.facts ty.facts y.facts u m) y.facts up)
        (λ e. strict_list_fine (index_rule sy.facts) (index_rule ty.facts) sy.facts ty.facts (sort sx.fact) (sort tx.fact) (λ u m. rules.index sy.facts ty.facts y.facts u m) y.facts up (clear_sort tx.fact (x.clear e)) (y.clear (x.kept e)))
        (λ e. strict_list_clear (index_rule ty.facts) (rules.clear_index ty.facts) tx.fact ty.facts (x.clear e) (y.clear (x.kept e)))
        x.progress (λ e. y.kept (x.kept e))
    see_rises (Assign i p n a) v w q =
        let s = see c g a v in
        let t = see c h a w in
        let y = see_rises a v w q in
        let b = settled_rises s.fact t.fact y.fact in
        assign_rises h w i p n (settled s.fact) (settled t.fact) (settled s.fact) (settled t.fact) s.progress t.progress b b y.progress y.kept (λ e. settled_clear t.fact (y.clear e)) c (c.binding n)
    see_rises (AssignAt i p n xs a) v w q =
        let sy = see c g a v in
        let ty = see c h a w in
        let y = see_rises a v w q in
        let sx = see_all c g xs sy.progress in
        let tx = see_all c h xs ty.progress in
        let x = see_all_rises xs sy.progress ty.progress y.progress in
        let old = name_fact c g (c.binding n) n sx.progress.names in
        let old' = name_fact c h (c.binding n) n tx.progress.names in
        let o = name_rises (c.binding n) n sx.progress.names tx.progress.names x.progress.names in
        let r = change_fact old sx.facts sy.fact in
        let r' = change_fact old' tx.facts ty.fact in
        let read = denied_read p old' tx.progress in
        let b = change_facts old old' sx.facts tx.facts sy.fact ty.fact o x.facts y.fact in
        assign_rises h w i p n (left_fact old sy.fact) (left_fact old' ty.fact) (fact_of r) (fact_of r') (denied_by p r (denied_read p old sx.progress)) (denied_by p r' read)
        (rules.left old old' sy.fact ty.fact o y.fact) b
        (deny_follows h p r r' (denied_read p old sx.progress) read
        (λ e. change_fine old old' sx.facts tx.facts sy.fact ty.fact o x.facts y.fact (read_clear p old' tx.progress e) (x.clear (read_kept p old' tx.progress e)) (y.clear (x.kept (read_kept p old' tx.progress e))))
        (read_follows h p old old' sx.progress tx.progress o x.progress))
        (λ e. y.kept (x.kept (read_kept p old' tx.progress (deny_kept p r' read e))))
        (λ e. deny_clear p r' read (λ z. change_clear old' tx.facts ty.fact (read_clear p old' tx.progress z) (x.clear (read_kept p old' tx.progress z)) (y.clear (x.kept (read_kept p old' tx.progress z)))) e)
        c (c.binding n)
    see_rises (Show i p a) v w q =
        let s = see c g a v in
        let t = see c h a w in
        let y = see_rises a v w q in
        settles_rises h w i (settled s.fact) (settled t.fact) s.progress t.progress (settled_rises s.fact t.fact y.fact) y.progress y.kept (λ e. settled_clear t.fact (y.clear e))
    see_rises (Call i p n a b) v w q =
        let sy = see_argument c g b v in
        let ty = see_argument c h b w in
        let y = see_argument_rises b v w q in
        let sx = see_argument c g a sy.progress in
        let tx = see_argument c h a ty.progress in
        let x = see_argument_rises a sy.progress ty.progress y.progress in
        let j = function_of (c.binding n) in
        let z = call_fact sx.fact sy.fact (g (cell.Answer j)) in
        let z' = call_fact tx.fact ty.fact (h (cell.Answer j)) in
        let up = call_fact_rises sx.fact tx.fact sy.fact ty.fact (g (cell.Answer j)) (h (cell.Answer j)) x.fact y.fact (gh (cell.Answer j)) in
        let before = passed j sx.fact sy.fact sx.progress in
        let after = passed j tx.fact ty.fact tx.progress in
        settles_rises h w i z z' (denied_read p z before) (denied_read p z' after) up
        (read_follows h p z z' before after up (passed_follows h j sx.fact tx.fact sy.fact ty.fact sx.progress tx.progress x.fact y.fact x.progress))
        (λ e. y.kept (x.kept (passed_kept j tx.fact ty.fact tx.progress (read_kept p z' after e))))
        (λ e. read_clear p z' after e)

    pub see_all_rises : (xs : Trees) (v w : Progress) → Follows h v w → RisesAll h w (see_all c g xs v) (see_all c h xs w)
    see_all_rises no_more v w q = record { facts = refl; progress = q; kept = λ e. e; clear = λ e. refl }
    see_all_rises (left_out xs) v w q = let y = see_all_rises xs v w q in record { facts = y.facts; progress = y.progress; kept = y.kept; clear = y.clear }
    see_all_rises (and_tree t xs) v w q =
        let sy = see_all c g xs v in
        let ty = see_all c h xs w in
        let y = see_all_rises xs v w q in
        let sx = see c g t sy.progress in
        let tx = see c h t ty.progress in
        let x = see_rises t sy.progress ty.progress y.progress in
        record {
          facts = both_true (below sx.fact tx.fact) (entries_below sy.facts ty.facts) x.fact y.facts;
          progress = x.progress;
          kept = λ e. y.kept (x.kept e);
          clear = λ e. neither (is_mixed tx.fact) (any_fact is_mixed ty.facts) (x.clear e) (y.clear (x.kept e));
        }

    pub see_argument_rises : (a : Argument) (v w : Progress) → Follows h v w → RisesArgument h w (see_argument c g a v) (see_argument c h a w)
    see_argument_rises absent v w q = record { fact = refl; progress = q; kept = λ e. e; clear = λ e. refl }
    see_argument_rises (given t) v w q =
        let s = see c g t v in
        let u = see c h t w in
        let y = see_rises t v w q in
        record {
          fact = both_true (below s.fact u.fact) true y.fact refl;
          progress = y.progress;
          kept = y.kept;
          clear = λ e. neither (is_mixed u.fact) false (y.clear e) refl;
        }

  -- ---- Statements

  pub statement_rises : (x : Action) (v w : Progress) → Follows h v w → Follows h (see_statement c g x v) (see_statement c h x w)
  statement_rises nothing v w q = q
  statement_rises (quiet t) v w q = (see_rises t v w q).progress
  statement_rises (display t) v w q = (see_rises t v w q).progress
  statement_rises (branch p t) v w q =
      let s = see c g t v in
      let u = see c h t w in
      let y = see_rises t v w q in
      deny_follows h p (branch_fact s.fact) (branch_fact u.fact) s.progress u.progress
      (λ e. strict1_fine branch_rule branch_rule rules.branch (sort s.fact) (sort u.fact) (sort_rises s.fact u.fact y.fact) (clear_sort u.fact (y.clear e)))
      y.progress
  statement_rises (perform i p n a b) v w q =
      let sy = see_argument c g b v in
      let ty = see_argument c h b w in
      let y = see_argument_rises b v w q in
      let sx = see_argument c g a sy.progress in
      let tx = see_argument c h a ty.progress in
      let x = see_argument_rises a sy.progress ty.progress y.progress in
      let j = function_of (c.binding n) in
      ask_follows h (cell.Node i) (call_fact sx.fact sy.fact Unset) (call_fact tx.fact ty.fact Unset) (passed j sx.fact sy.fact sx.progress) (passed j tx.fact ty.fact tx.progress)
      (call_fact_rises sx.fact tx.fact sy.fact ty.fact Unset Unset x.fact y.fact refl)
      (passed_follows h j sx.fact tx.fact sy.fact ty.fact sx.progress tx.progress x.fact y.fact x.progress)
