-- Arms: their numbers, their blocks, and the default.
use Rattle.std.proofs.Common.{◌≡◌, ◌∙◌, ap, ap₂, sym, refl, subst, ℕ, zero, suc, ◌+◌, ◌<◌, ◌≤◌, ◌^◌, List, [], ◌∷◌, ◌++◌, append_assoc, codes, decimal, ℤ, pos, negsuc, Option, Some, true, false, ◌&&◌, IsTrue, nat_lt, arith, length, get_or, map}
use Rattle.std.proofs.lemmas.List.{append-nil, length-append}
use Rattle.std.specs.Fmt.{signed_decimal}
use Rattle.aplc_cprof.specs.declared.syntax.Arm.{Arm}
use Rattle.aplc_cprof.specs.declared.syntax.CStmt.{CStmt}
use Rattle.aplc_cprof.specs.Text.{stmts_text, arms_text}
use Rattle.aplc_cprof.specs.WellFormed.{Scope, is_plain, inside, arms_fit, arm_test, are_stmts}
use Rattle.aplc_cread.specs.Reading.{Found, Any, Bind, OneOf, Halts, Map}
use Rattle.aplc_cread.specs.Exprs.{IsInner}
use Rattle.aplc_cread.specs.Stmts.{BlockThen, before, Arms}
use Rattle.aplc_cread.specs.declared.lexical.Halt.{Halt}
use Rattle.aplc_cread.proofs.Rules.{bind_found, bind_stops, bind_stops_first, within_found, within_stops, found_map, stops_map, Within, Some_of, same, Joint, joint_any, some_bind, some_map, bind_at, lit_at}
use Rattle.aplc_cprof.specs.WellFormed.{rise_above}
use Rattle.aplc_cprof.proofs.Equations.{text_arm}
use Rattle.aplc_cprof.proofs.Forms.{is_arm}
use Rattle.std.specs.Prelude.{int_lt}
use Rattle.aplc_cread.specs.Ranges.{Ranged}
use Rattle.aplc_cread.specs.Stmts.{RangedThen, arm_texts, arm_may, ArmBehind, GrownArms}
use Rattle.aplc_cread.proofs.Blocks.{some_block_then, some_arms}
use Rattle.aplc_cread.proofs.Rules.{Followed}
use Rattle.aplc_cread.proofs.Stmts.{room_of}
use Rattle.aplc_cread.proofs.Exprs.{inner_one, both, and_both, lt_of, of_lt, inner_of, of_inner}

pub within_ranged_then : {s : List ℕ} (low bound : ℕ) (t : List ℕ) → Within s (Followed (Ranged low bound) t) (RangedThen low bound t)
within_ranged_then low bound t = same
    (λ k w m. let r = m.goes_on in let z = r.goes_on in record {
      above = subst (λ x. low ≤ x) (sym z.0) m.begins.above;
      below = subst (λ x. x < bound) (sym z.0) m.begins.below;
      text = cc (m.whole, m.begins.text, r.whole, r.begins, z.1, append-nil t) ∙ ap (λ x. decimal x ++ t) (sym z.0);
    })
    (λ k w m. let P : List ℕ → Type 0 = λ w. Followed (Ranged low bound) t k w in subst P (ap (λ x. decimal k ++ x) (append-nil t) ∙ sym m.text)
    (bind_at k (decimal k) (t ++ []) (record { above = m.above; below = m.below; text = refl }) (lit_at [] (refl, refl))))

-- ---- Numbers that rise

above_of : (low n : ℕ) → IsTrue (int_lt (before low) (pos n)) → low ≤ n
above_of zero n h = omega arith
above_of (suc m) n h = let l = lt_of m n h in omega (arith, l)

of_above : (low n : ℕ) → low ≤ n → IsTrue (int_lt (before low) (pos n))
of_above zero n l = refl
of_above (suc m) n l = of_lt m n (omega (arith, l))

-- ---- Arms, taken apart and put together

arm_pieces : (n b rest t : List ℕ) → (codes "case " ++ n ++ codes ": {\n" ++ b ++ codes "} break;\n") ++ rest ++ t ≡ codes "case " ++ ((n ++ codes ": {\n") ++ ((b ++ (codes "}" ++ codes " break;\n")) ++ (rest ++ t)))
arm_pieces n b rest t = simp append_assoc

abbrev pub Keyed_arms : Scope → Option ℕ → Option ℕ → ℕ → List Arm × List CStmt → List ℕ → Type 0
Keyed_arms sc room r low = Bind (OneOf arm_texts (arm_may low)) (ArmBehind sc room r low)

pub within_arms : (sc : Scope) (room r : Option ℕ) (low : ℕ) (s : List ℕ) → IsInner room (Some r) → Within s (Keyed_arms sc room r low) (Arms sc room low)
within_arms sc room r low s inner = same (λ x w m. into x w m.part m.front m.back m.begins m.goes_on m.whole) (λ x w m. from x.0 x.1 w m)
  where
    into : (x : List Arm × List CStmt) (w : List ℕ) (i : ℕ) (a b : List ℕ) → OneOf arm_texts (arm_may low) i a → ArmBehind sc room r low i x b → w ≡ a ++ b → Arms sc room low x w
    into x w zero a b o m q =
        let n = m.part in let m2 = m.goes_on in let body = m2.part in let m3 = m2.goes_on in
        let arm : Arm = record { value = pos n; body = body } in
        let later = map (arm_test sc) m3.part.0 in
        let t = is_arm sc arm in
        record {
          rise = subst (λ x. IsTrue (rise_above (before low) (map (arm_test sc) x.0))) (sym m3.is) (subst IsTrue (sym (ap (λ t. rise_above (before low) (t ∷ later)) t)) (and_both (int_lt (before low) (pos n)) (rise_above (pos n) later) (of_above low n m.begins.above) m3.of.rise));
          arms = subst (λ x. IsTrue (arms_fit (map (arm_test sc) x.0) room)) (sym m3.is) (subst IsTrue (sym (ap (λ t. arms_fit (t ∷ later) room) t))
              (and_both (nat_lt n (2 ^ 63) && inside room (are_stmts sc body)) (arms_fit later room) (and_both (nat_lt n (2 ^ 63)) (inside room (are_stmts sc body)) (of_lt n (2 ^ 63) m.begins.below) (of_inner room r (are_stmts sc body) inner m2.begins.fits)) m3.of.arms));
          default = subst (λ x. IsTrue (inside room (are_stmts sc x.1))) (sym m3.is) m3.of.default;
          text = q ∙ cc (o.text, m.whole, m.begins.text, m2.whole, m2.begins.text, m3.of.text) ∙ pieces (decimal n) (stmts_text body) (arms_text m3.part.0) (codes "default: {\n" ++ (stmts_text m3.part.1 ++ codes "} break;\n}\n"))
              ∙ ap (λ y. y ++ arms_text m3.part.0 ++ (codes "default: {\n" ++ (stmts_text m3.part.1 ++ codes "} break;\n}\n"))) (sym (text_arm arm))
              ∙ ap (λ x. arms_text x.0 ++ (codes "default: {\n" ++ (stmts_text x.1 ++ codes "} break;\n}\n"))) (sym m3.is);
        }
      where
        pieces : (n b rest t : List ℕ) → codes "case " ++ ((n ++ codes ": {\n") ++ ((b ++ (codes "}" ++ codes " break;\n")) ++ (rest ++ t))) ≡ (codes "case " ++ n ++ codes ": {\n" ++ b ++ codes "} break;\n") ++ rest ++ t
        pieces n b rest t = sym (arm_pieces n b rest t)
    into x w (suc zero) a b o m q = record {
      rise = subst (λ x. IsTrue (rise_above (before low) (map (arm_test sc) x.0))) (sym m.is) refl;
      arms = subst (λ x. IsTrue (arms_fit (map (arm_test sc) x.0) room)) (sym m.is) refl;
      default = subst (λ x. IsTrue (inside room (are_stmts sc x.1))) (sym m.is) (of_inner room r (are_stmts sc m.part) inner m.of.fits);
      text = q ∙ ap₂ (λ y z. y ++ z) o.text m.of.text ∙ ap (λ x. arms_text x.0 ++ (codes "default: {\n" ++ (stmts_text x.1 ++ codes "} break;\n}\n"))) (sym m.is);
    }
    into x w (suc (suc i)) a b o m q = absurd (omega (arith, o.within))

    block_fits : (ss : List CStmt) → IsTrue (inside room (are_stmts sc ss)) → IsTrue (are_stmts sc ss r)
    block_fits ss h = let z = inner_of room (are_stmts sc ss) h in subst (λ r. IsTrue (are_stmts sc ss r)) (inner_one room z.0 r z.1 inner) z.2

    from : (rest_arms : List Arm) (d : List CStmt) (w : List ℕ) → Arms sc room low (rest_arms, d) w → Keyed_arms sc room r low (rest_arms, d) w
    from [] d w m = record {
      part = 1;
      front = codes "default: {\n";
      back = stmts_text d ++ codes "} break;\n}\n";
      begins = record { within = omega arith; text = refl; may = refl };
      goes_on = record { part = d; is = refl; of = record { fits = block_fits d m.default; text = refl } };
      whole = m.text;
    }
    from (a ∷ rest_arms) d w m =
        let later = map (arm_test sc) rest_arms in
        let t = is_arm sc a in
        let g = both (int_lt (before low) a.value) (rise_above a.value later) (subst IsTrue (ap (λ t. rise_above (before low) (t ∷ later)) t) m.rise) in
        let f = both (is_plain a.value && inside room (are_stmts sc a.body)) (arms_fit later room) (subst IsTrue (ap (λ t. arms_fit (t ∷ later) room) t) m.arms) in
        let h = both (is_plain a.value) (inside room (are_stmts sc a.body)) f.0 in
        valued a.value refl g.0 g.1 h.0 h.1 f.1
      where
        valued : (z : ℤ) → a.value ≡ z → IsTrue (int_lt (before low) a.value) → IsTrue (rise_above a.value (map (arm_test sc) rest_arms)) → IsTrue (is_plain a.value) → IsTrue (inside room (are_stmts sc a.body)) → IsTrue (arms_fit (map (arm_test sc) rest_arms) room)
            → Keyed_arms sc room r low (a ∷ rest_arms, d) w
        valued (negsuc n) e g1 g2 h1 h2 f2 = absurd (cc (subst (λ z. IsTrue (is_plain z)) e h1))
        valued (pos n) e g1 g2 h1 h2 f2 =
            let below = lt_of n (2 ^ 63) (subst (λ z. IsTrue (is_plain z)) e h1) in
            let above = above_of low n (subst (λ z. IsTrue (int_lt (before low) z)) e g1) in
            let dt : List ℕ = codes "default: {\n" ++ (stmts_text d ++ codes "} break;\n}\n") in
            let same_arm : a ≡ record { value = pos n; body = a.body } = ap (λ (z : ℤ). record { value = z; body = a.body }) e in
            record {
              part = 0;
              front = codes "case ";
              back = (decimal n ++ codes ": {\n") ++ ((stmts_text a.body ++ (codes "}" ++ codes " break;\n")) ++ (arms_text rest_arms ++ dt));
              begins = record { within = omega arith; text = refl; may = of_lt low (2 ^ 63) (omega (arith, below, above)) };
              goes_on = bind_at n (decimal n ++ codes ": {\n") _ (record { above = above; below = below; text = refl })
                  (bind_at a.body (stmts_text a.body ++ (codes "}" ++ codes " break;\n")) _ (record { fits = block_fits a.body h2; text = refl })
                  (record { part = (rest_arms, d); is = ap (λ a. (a ∷ rest_arms, d)) same_arm; of = record { rise = subst (λ z. IsTrue (rise_above z (map (arm_test sc) rest_arms))) e g2; arms = f2; default = m.default; text = refl } }));
              whole = m.text ∙ ap (λ y. y ++ arms_text rest_arms ++ dt) (text_arm a ∙ ap (λ z. codes "case " ++ signed_decimal z ++ codes ": {\n" ++ stmts_text a.body ++ codes "} break;\n") e) ∙ arm_pieces (decimal n) (stmts_text a.body) (arms_text rest_arms) dt;
            }

-- ---- How the loop goes

some_behind : (sc : Scope) (room r : Option ℕ) (low i : ℕ) → IsInner room (Some r) → get_or (arm_may low) i false ≡ true → Some_of (ArmBehind sc room r low i)
some_behind sc room r low zero n h = some_bind (low, (decimal low ++ codes ": {\n", record { above = omega arith; below = lt_of low (2 ^ 63) h; text = refl })) (λ k. some_bind (some_block_then sc r (codes " break;\n"))
    (λ b. some_map (λ (x : List Arm × List CStmt). ((record { value = pos k; body = b }) ∷ x.0, x.1)) (some_arms sc room (suc k) (room_of room r n))))
some_behind sc room r low (suc i) n h = some_map (λ (d : List CStmt). ([], d)) (some_block_then sc r (codes " break;\n}\n"))

pub joint_start : (sc : Scope) (room r : Option ℕ) (low : ℕ) → IsInner room (Some r) → Joint Any (OneOf arm_texts (arm_may low)) Any (ArmBehind sc room r low)
joint_start sc room r low n = joint_any (λ i w o. some_behind sc room r low i n o.may)

pub joint_number : (sc : Scope) (room r : Option ℕ) (low : ℕ) → IsInner room (Some r) → Joint {C = List Arm × List CStmt} Any (RangedThen low (2 ^ 63) (codes ": {\n")) Any (λ n. Bind (BlockThen sc r (codes " break;\n")) (λ b. Map (λ (x : List Arm × List CStmt). ((record { value = pos n; body = b }) ∷ x.0, x.1)) (Arms sc room (suc n))))
joint_number sc room r low n = joint_any (λ k w o. some_bind (some_block_then sc r (codes " break;\n")) (λ b. some_map (λ (x : List Arm × List CStmt). ((record { value = pos k; body = b }) ∷ x.0, x.1)) (some_arms sc room (suc k) (room_of room r n))))

pub joint_body : (sc : Scope) (room r : Option ℕ) (k : ℕ) → IsInner room (Some r) → Joint {C = List Arm × List CStmt} Any (BlockThen sc r (codes " break;\n")) Any (λ b. Map (λ (x : List Arm × List CStmt). ((record { value = pos k; body = b }) ∷ x.0, x.1)) (Arms sc room (suc k)))
joint_body sc room r k n = joint_any (λ b w o. some_map (λ (x : List Arm × List CStmt). ((record { value = pos k; body = b }) ∷ x.0, x.1)) (some_arms sc room (suc k) (room_of room r n)))

pub start_shorter : (low : ℕ) {s rest : List ℕ} {i : ℕ} → Found Any (OneOf arm_texts (arm_may low)) s i rest → length rest < length s
start_shorter low {s} {rest} {i} f =
    let l = length_of i f.is.within in
    let e : length s ≡ length (get_or arm_texts i []) + length rest = ap length f.here ∙ length-append f.text rest ∙ ap (λ x. length x + length rest) f.is.text in
    omega (arith, l, e)
  where
    length_of : (i : ℕ) → i < 2 → 0 < length (get_or arm_texts i [])
    length_of zero l = omega arith
    length_of (suc zero) l = omega arith
    length_of (suc (suc i)) l = absurd (omega (arith, l))

pub arms_start : (sc : Scope) (room : Option ℕ) (s : List ℕ) → GrownArms sc room s [] 0 s
arms_start sc room s = record { near = omega arith; low_within = omega arith; found = λ x r f. f; stops = λ r f. f }

pub arms_keyword : {sc : Scope} {room : Option ℕ} {s rest : List ℕ} {done : List Arm} {low : ℕ} {h : Halt} (r : Option ℕ) → IsInner room (Some r) → GrownArms sc room s done low rest
    → Halts Any (OneOf arm_texts (arm_may low)) rest h → Halts Any (Arms sc room 0) s h
arms_keyword {sc} {room} {s} {rest} {done} {low} {h} r n g f = record { stops = λ x e. g.stops x.now (within_stops (within_arms sc room r low rest n) (bind_stops_first (joint_start sc room r low n) (f.stops x e))) }

first_arm : (low i : ℕ) {s rest : List ℕ} → i ≡ 0 → Found Any (OneOf arm_texts (arm_may low)) s i rest → Found Any (OneOf arm_texts (arm_may low)) s 0 rest
first_arm low i {s} {rest} e f = subst (λ i. Found Any (OneOf arm_texts (arm_may low)) s i rest) e f

second_arm : (low : ℕ) {s rest : List ℕ} (i : ℕ) → (i ≡ 0 → ⊥) → Found Any (OneOf arm_texts (arm_may low)) s i rest → Found Any (OneOf arm_texts (arm_may low)) s 1 rest
second_arm low zero n f = absurd (n refl)
second_arm low (suc zero) n f = f
second_arm low (suc (suc i)) n f = absurd (omega (arith, f.is.within))

pub arms_number : {sc : Scope} {room : Option ℕ} {s rest behind : List ℕ} {done : List Arm} {low i : ℕ} {h : Halt} (r : Option ℕ) → IsInner room (Some r) → GrownArms sc room s done low rest → i ≡ 0
    → Found Any (OneOf arm_texts (arm_may low)) rest i behind → Halts Any (RangedThen low (2 ^ 63) (codes ": {\n")) behind h → Halts Any (Arms sc room 0) s h
arms_number {sc} {room} {s} {rest} {behind} {done} {low} {i} {h} r n g q f x = record { stops = λ y e. g.stops y.now (within_stops (within_arms sc room r low rest n) (bind_stops (joint_start sc room r low n) (first_arm low i q f) (bind_stops_first (joint_number sc room r low n) (x.stops y e)))) }

pub arms_body : {sc : Scope} {room : Option ℕ} {s rest behind after : List ℕ} {done : List Arm} {low i k : ℕ} {h : Halt} (r : Option ℕ) → IsInner room (Some r) → GrownArms sc room s done low rest → i ≡ 0
    → Found Any (OneOf arm_texts (arm_may low)) rest i behind → Found Any (RangedThen low (2 ^ 63) (codes ": {\n")) behind k after → Halts Any (BlockThen sc r (codes " break;\n")) after h → Halts Any (Arms sc room 0) s h
arms_body {sc} {room} {s} {rest} {behind} {after} {done} {low} {i} {k} {h} r n g q f m x = record {
  stops = λ y e. g.stops y.now (within_stops (within_arms sc room r low rest n)
      (bind_stops (joint_start sc room r low n) (first_arm low i q f) (bind_stops (joint_number sc room r low n) m (bind_stops_first (joint_body sc room r k n) (x.stops y e)))));
}

pub arms_next : {sc : Scope} {room : Option ℕ} {s rest behind after next : List ℕ} {done : List Arm} {low i k : ℕ} {b : List CStmt} (r : Option ℕ) (low' : ℕ) → low' ≡ suc k → IsInner room (Some r) → GrownArms sc room s done low rest → i ≡ 0
    → Found Any (OneOf arm_texts (arm_may low)) rest i behind → Found Any (RangedThen low (2 ^ 63) (codes ": {\n")) behind k after → Found Any (BlockThen sc r (codes " break;\n")) after b next
    → GrownArms sc room s (done ++ (record { value = pos k; body = b }) ∷ []) low' next
arms_next {sc} {room} {s} {rest} {behind} {after} {next} {done} {low} {i} {k} {b} r low' e n g q f m x =
    let arm : Arm = record { value = pos k; body = b } in
    let add : List Arm × List CStmt → List Arm × List CStmt = λ x. (arm ∷ x.0, x.1) in
    subst (λ l. GrownArms sc room s (done ++ arm ∷ []) l next) (sym e) (record {
      near = omega (arith, g.near, start_shorter low f, ap length m.here, length-append m.text after, ap length x.here, length-append x.text next);
      low_within = omega (arith, m.is.below);
      found = λ y t z. subst (λ q. Found Any (Arms sc room 0) s (q, y.1) t) (sym (append_assoc done (arm ∷ []) y.0))
          (g.found (arm ∷ y.0, y.1) t (within_found (within_arms sc room r low rest n) (bind_found (joint_start sc room r low n) (first_arm low i q f) (bind_found (joint_number sc room r low n) m (bind_found (joint_body sc room r k n) x (found_map add z))))));
      stops = λ t z. g.stops t (within_stops (within_arms sc room r low rest n) (bind_stops (joint_start sc room r low n) (first_arm low i q f) (bind_stops (joint_number sc room r low n) m (bind_stops (joint_body sc room r k n) x (stops_map add z)))));
    })

pub arms_default : {sc : Scope} {room : Option ℕ} {s rest behind : List ℕ} {done : List Arm} {low i : ℕ} {h : Halt} (r : Option ℕ) → IsInner room (Some r) → GrownArms sc room s done low rest → (i ≡ 0 → ⊥)
    → Found Any (OneOf arm_texts (arm_may low)) rest i behind → Halts Any (BlockThen sc r (codes " break;\n}\n")) behind h → Halts Any (Arms sc room 0) s h
arms_default {sc} {room} {s} {rest} {behind} {done} {low} {i} {h} r n g q f x = record {
  stops = λ y e. g.stops y.now (within_stops (within_arms sc room r low rest n)
      (bind_stops (joint_start sc room r low n) (second_arm low i q f) (stops_map (λ (d : List CStmt). ([], d)) (x.stops y e))));
}

pub arms_end : {sc : Scope} {room : Option ℕ} {s rest behind end : List ℕ} {done : List Arm} {low i : ℕ} {d : List CStmt} (r : Option ℕ) → IsInner room (Some r) → GrownArms sc room s done low rest → (i ≡ 0 → ⊥)
    → Found Any (OneOf arm_texts (arm_may low)) rest i behind → Found Any (BlockThen sc r (codes " break;\n}\n")) behind d end → Found Any (Arms sc room 0) s (done, d) end
arms_end {sc} {room} {s} {rest} {behind} {end} {done} {low} {i} {d} r n g q f x =
    subst (λ q. Found Any (Arms sc room 0) s (q, d) end) (append-nil done)
    (g.found ([], d) end (within_found (within_arms sc room r low rest n) (bind_found (joint_start sc room r low n) (second_arm low i q f) (found_map (λ (d : List CStmt). ([], d)) x))))
