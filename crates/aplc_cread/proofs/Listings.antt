-- Names with numbers, and lines that declare them.
use Rattle.std.proofs.Common.{◌≡◌, ◌∙◌, ap, ap₂, sym, refl, subst, ℕ, zero, suc, ◌+◌, ◌-◌, ◌<◌, ◌^◌, List, [], ◌∷◌, ◌++◌, append_assoc, codes, decimal, Bool, true, false, cond, IsTrue, arith, length, get_or}
use Rattle.std.proofs.lemmas.List.{length-append}
use Rattle.aplc_cprof.specs.Text.{listed_from}
use Rattle.aplc_cread.specs.Reading.{Found, Any, NoDigit, is_digit, Bind, Lit, OneOf, Halts}
use Rattle.aplc_cread.specs.Ranges.{Ranged}
use Rattle.aplc_cread.specs.Leading.{Leads}
use Rattle.aplc_cread.specs.Listings.{numbered, Beyond, closes, Listing, list_texts, list_may, ListingBehind}
use Rattle.aplc_cread.specs.declared.lexical.Halt.{Halt}
use Rattle.aplc_cread.proofs.Rules.{Within, Some_of, same, Joint, joint_any, joint_lit, some_pure, bind_at, lit_at}
use Rattle.aplc_cread.proofs.Leads.{leads_start, leads_bind, leads_within, leads_first, leads_pure}
use Rattle.aplc_cread.proofs.Exprs.{lt_of, of_lt}

-- ---- One name

abbrev pub Parts : List ℕ → ℕ → List ℕ → Unit {0} → List ℕ → Type 0
Parts head n end = Bind (Lit head) (λ u. Bind (Ranged n (n + 1)) (λ k. Lit end))

one : (n : ℕ) (w : List ℕ) (k : ℕ) → Ranged n (n + 1) k w → w ≡ decimal n
one n w k m = m.text ∙ ap decimal (let l = m.above in let h = m.below in let q : k ≡ n = omega (arith, l, h) in q)

pub within_parts : {s : List ℕ} (head : List ℕ) (n : ℕ) (end : List ℕ) → Within s (Parts head n end) (Lit (numbered head end n))
within_parts head n end = same
    (λ a w m. let r = m.goes_on in m.whole ∙ ap₂ (λ x y. x ++ y) m.begins (r.whole ∙ ap₂ (λ x y. x ++ y) (one n r.front r.part r.begins) r.goes_on))
    (λ a w e. let P : List ℕ → Type 0 = λ w. Parts head n end a w in subst P (sym e) (lit_at (decimal n ++ end) (bind_at n (decimal n) end (record { above = omega arith; below = omega arith; text = refl }) refl)))

some_end : (n : ℕ) (end : List ℕ) → Some_of (Bind (Ranged n (n + 1)) (λ k. Lit end))
some_end n end = (tt, (decimal n ++ end, bind_at n (decimal n) end (record { above = omega arith; below = omega arith; text = refl }) refl))

pub joint_head : (head : List ℕ) (n : ℕ) (end : List ℕ) → Joint Any (Lit head) (Beyond end) (λ u. Bind (Ranged n (n + 1)) (λ k. Lit end))
joint_head head n end = joint_lit (some_end n end)

closed : (b : Bool) → IsTrue (cond b false true) → b ≡ false
closed true h = absurd (cc h)
closed false h = refl

pub joint_end : (n : ℕ) (end : List ℕ) → IsTrue (closes end) → Joint NoDigit (Ranged n (n + 1)) (Beyond end) (λ k. Lit end)
joint_end n [] h = record { follow = λ a c w k m g. subst NoDigit (sym (ap (λ x. x ++ k) m)) g; some = λ a w l. (tt, ([], refl)) }
joint_end n (c ∷ end) h = record { follow = λ a x w k m g. subst NoDigit (sym (ap (λ x. x ++ k) m)) (closed (is_digit c) h); some = λ a w l. (tt, (c ∷ end, refl)) }

-- ---- Lines

pub listing_none : (head end : List ℕ) (k : ℕ) → k < 2 ^ 32 → Listing head end k k (codes ";\n")
listing_none head end k l = record { more = 0; count = omega arith; below = l; text = refl }

pub some_listing : (head end : List ℕ) (k : ℕ) → k < 2 ^ 32 → Some_of (Listing head end k)
some_listing head end k l = (k, (codes ";\n", listing_none head end k l))

abbrev pub Listed : List ℕ → List ℕ → ℕ → ℕ → List ℕ → Type 0
Listed head end k = Bind (OneOf list_texts (list_may k)) (ListingBehind head end k)

pieces : (head end rest : List ℕ) (k : ℕ) → (codes ", " ++ numbered head end k ++ rest) ++ codes ";\n" ≡ codes ", " ++ (numbered head end k ++ (rest ++ codes ";\n"))
pieces head end rest k = regroup (numbered head end k)
  where
    regroup : (x : List ℕ) → (codes ", " ++ x ++ rest) ++ codes ";\n" ≡ codes ", " ++ (x ++ (rest ++ codes ";\n"))
    regroup x = simp append_assoc

pub within_listing : (head end : List ℕ) (k : ℕ) (s : List ℕ) → k < 2 ^ 32 → Within s (Listed head end k) (Listing head end k)
within_listing head end k s h = same (λ n w m. into n w m.part m.front m.back m.begins m.goes_on m.whole) (λ n w m. from n w m.more m.count m.below m.text)
  where
    into : (n : ℕ) (w : List ℕ) (i : ℕ) (a b : List ℕ) → OneOf list_texts (list_may k) i a → ListingBehind head end k i n b → w ≡ a ++ b → Listing head end k n w
    into n w zero a b o m q = record {
      more = 0;
      count = m.0 ∙ omega arith;
      below = subst (λ x. x < 2 ^ 32) (sym m.0) h;
      text = q ∙ ap₂ (λ x y. x ++ y) o.text m.1;
    }
    into n w (suc zero) a b o m q =
        let r = m.goes_on in record {
          more = suc r.more;
          count = let c = r.count in omega (arith, c);
          below = r.below;
          text = q ∙ ap₂ (λ x y. x ++ y) o.text (m.whole ∙ ap₂ (λ x y. x ++ y) m.begins r.text) ∙ sym (pieces head end (listed_from (numbered head end) (k + 1) r.more) k);
        }
    into n w (suc (suc i)) a b o m q = absurd (let l = o.within in omega (arith, l))

    from : (n : ℕ) (w : List ℕ) (more : ℕ) → n ≡ k + more → n < 2 ^ 32 → w ≡ listed_from (numbered head end) k more ++ codes ";\n" → Listed head end k n w
    from n w zero e l t = record { part = 0; front = codes ";\n"; back = []; begins = record { within = omega arith; text = refl; may = refl }; goes_on = (omega (arith, e), refl); whole = t }
    from n w (suc more) e l t =
        let rest = listed_from (numbered head end) (k + 1) more in record {
          part = 1;
          front = codes ", ";
          back = numbered head end k ++ (rest ++ codes ";\n");
          begins = record { within = omega arith; text = refl; may = of_lt k (2 ^ 32 - 1) (omega (arith, e, l)) };
          goes_on = lit_at (rest ++ codes ";\n") (record { more = more; count = omega (arith, e); below = l; text = refl });
          whole = t ∙ pieces head end rest k;
        }

-- a line's rest does not begin with a digit
listing_beyond : (head end : List ℕ) (j n : ℕ) (w k : List ℕ) → Listing head end j n w → Beyond end (w ++ k)
listing_beyond head (c ∷ end) j n w k m = tt
listing_beyond head [] j n w k m = subst NoDigit (sym (ap (λ x. x ++ k) m.text)) (begins m.more)
  where
    begins : (more : ℕ) → NoDigit ((listed_from (numbered head []) j more ++ codes ";\n") ++ k)
    begins zero = refl
    begins (suc more) = refl

pub joint_comma : (head end : List ℕ) (k : ℕ) → k < 2 ^ 32 → Joint Any (OneOf list_texts (list_may k)) Any (ListingBehind head end k)
joint_comma head end k l = joint_any (λ i w o. some i o.within o.may)
  where
    some : (i : ℕ) → i < 2 → get_or (list_may k) i false ≡ true → Some_of (ListingBehind head end k i)
    some zero h m = some_pure k
    some (suc zero) h m = let r = lt_of k (2 ^ 32 - 1) m in let t = listing_none head end (k + 1) (omega (arith, r)) in (k + 1, (numbered head end k ++ codes ";\n", lit_at (codes ";\n") t))
    some (suc (suc i)) h m = absurd (omega (arith, h))

pub joint_name : (head end : List ℕ) (k : ℕ) → k + 1 < 2 ^ 32 → Joint (Beyond end) (Lit (numbered head end k)) Any (λ u. Listing head end (k + 1))
joint_name head end k l = record { follow = λ a n w r m g. listing_beyond head end (k + 1) n w r m; some = λ a w m. some_listing head end (k + 1) l }

-- ---- How the loop goes

abbrev pub Names : List ℕ → List ℕ → List ℕ → ℕ → List ℕ → Type 0
Names head end s k rest = Leads (Listing head end 1) s (λ n. n) (Listing head end k) rest

pub names_start : (head end s : List ℕ) → Names head end s 1 s
names_start head end s = leads_start (Listing head end 1) s

pub comma_of : (k : ℕ) {i : ℕ} {w : List ℕ} → OneOf list_texts (list_may k) i w → (i ≡ 0 → ⊥) → (i ≡ 1) × (k + 1 < 2 ^ 32)
comma_of k {i} o n = go i o.within o.may n
  where
    go : (i : ℕ) → i < 2 → get_or (list_may k) i false ≡ true → (i ≡ 0 → ⊥) → (i ≡ 1) × (k + 1 < 2 ^ 32)
    go zero l m n = absurd (n refl)
    go (suc zero) l m n = let r = lt_of k (2 ^ 32 - 1) m in (refl, omega (arith, r))
    go (suc (suc i)) l m n = absurd (omega (arith, l))

pub comma_shorter : (k : ℕ) {s rest : List ℕ} {i : ℕ} → Found Any (OneOf list_texts (list_may k)) s i rest → length rest < length s
comma_shorter k {s} {rest} {i} f =
    let l = length_of i f.is.within in
    let e : length s ≡ length (get_or list_texts i []) + length rest = ap length f.here ∙ length-append f.text rest ∙ ap (λ x. length x + length rest) f.is.text in
    omega (arith, l, e)
  where
    length_of : (i : ℕ) → i < 2 → 0 < length (get_or list_texts i [])
    length_of zero l = omega arith
    length_of (suc zero) l = omega arith
    length_of (suc (suc i)) l = absurd (omega (arith, l))

pub names_comma : (head end : List ℕ) (k : ℕ) {s rest : List ℕ} {h : Halt} → k < 2 ^ 32 → Names head end s k rest → Halts Any (OneOf list_texts (list_may k)) rest h → Halts Any (Listing head end 1) s h
names_comma head end k {s} {rest} l g f = leads_first (joint_comma head end k l) (leads_within (within_listing head end k rest l) g) f

pub names_end : (head end : List ℕ) (k : ℕ) {s rest next : List ℕ} {i : ℕ} → k < 2 ^ 32 → i ≡ 0 → Names head end s k rest → Found Any (OneOf list_texts (list_may k)) rest i next → Found Any (Listing head end 1) s k next
names_end head end k {s} {rest} {next} {i} l e g f =
    leads_pure k (leads_bind (joint_comma head end k l) (leads_within (within_listing head end k rest l) g) (subst (λ i. Found Any (OneOf list_texts (list_may k)) rest i next) e f))

names_behind : (head end : List ℕ) (k : ℕ) {s rest next : List ℕ} {i : ℕ} → k < 2 ^ 32 → (i ≡ 0 → ⊥) → Names head end s k rest → Found Any (OneOf list_texts (list_may k)) rest i next
    → Leads (Listing head end 1) s (λ n. n) (Bind (Lit (numbered head end k)) (λ u. Listing head end (k + 1))) next
names_behind head end k {s} {rest} {next} {i} l n g f =
    let q = comma_of k f.is n in
    leads_bind (joint_comma head end k l) (leads_within (within_listing head end k rest l) g) (subst (λ i. Found Any (OneOf list_texts (list_may k)) rest i next) q.0 f)

pub names_name : (head end : List ℕ) (k : ℕ) {s rest next : List ℕ} {i : ℕ} {h : Halt} → k < 2 ^ 32 → (i ≡ 0 → ⊥) → Names head end s k rest → Found Any (OneOf list_texts (list_may k)) rest i next
    → Halts (Beyond end) (Lit (numbered head end k)) next h → Halts Any (Listing head end 1) s h
names_name head end k l n g f x = let q = comma_of k f.is n in leads_first (joint_name head end k q.1) (names_behind head end k l n g f) x

pub names_next : (head end : List ℕ) (k : ℕ) {s rest next later : List ℕ} {i : ℕ} → k < 2 ^ 32 → (i ≡ 0 → ⊥) → Names head end s k rest → Found Any (OneOf list_texts (list_may k)) rest i next
    → Found (Beyond end) (Lit (numbered head end k)) next tt later → Names head end s (k + 1) later
names_next head end k l n g f x = let q = comma_of k f.is n in leads_bind (joint_name head end k q.1) (names_behind head end k l n g f) x
