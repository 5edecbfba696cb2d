-- Where a line ends among bytes that were read, and bytes that are read behind them.
use Rattle.std.proofs.Common.{◌≡◌, ◌∙◌, ap, sym, refl, subst, ℕ, zero, suc, ◌+◌, ◌-◌, ◌*◌, ◌<◌, ◌≤◌, List, [], ◌∷◌, ◌++◌, length, take, drop, get_or, length-append, length-take-le, length-drop, take-append-drop, append_assoc, append-nil, arith, Bool, true, false, cond, nat_eq, nat_lt, ◌||◌, ℤ, Option, Some, None, option_and_then}
use Rattle.std.specs.Prelude.{IsTrue, position, ◌==◌}
use Rattle.std.specs.List.{position_from}
use Rattle.std.proofs.lemmas.List.{take_at, take_all, drop_all, get_or-take, take-take, drop-drop}
use Rattle.std.proofs.lemmas.Iterator.Adapters.{position_from-zero}
use Rattle.std.proofs.Math.Seq.{take-suc, take-append-add}
use Rattle.aplc_io.specs.Outside.{SourceState, SourceGives, SourceFails, IsAtEnd}
use Rattle.aplc_io.proofs.Gives.{gives-nil, gives-gives}
use Rattle.aplc_scalar.specs.declared.kind.FaultKind.TheVariants as fault
use Rattle.aplc_scalar.specs.Input.{Unread, line_bytes, after_line, line_text, decoded, read_line, line_or_fault}
use Rattle.aplc_scalar.proofs.InputEnds.{has_line_feed, line_bytes-past, after_line-past, text_of_return, text_of_other, text_of_all}
use Rattle.aplc_scalar.proofs.InputLaws.{read_too_long}
use Rattle.aplc_crun.specs.Gathering.{Gathered, Missed, Fetched, IsLine, IsNoLine, IsFirstFeed}

-- ---- What a read of a line comes to

-- a line that is not too long is read by its text
line_reads : (meaning : List ℕ → Option (List ℤ)) (input text left : List ℕ) → 0 < length input → length (line_bytes input) ≤ 2147483647 → line_text input ≡ text → after_line input ≡ left → read_line meaning input ≡ line_or_fault (option_and_then meaning (decoded text)) left
line_reads meaning [] text left some short e f = absurd (omega arith)
line_reads meaning (b ∷ bs) text left some short e f =
    let fits : nat_lt 2147483647 (length (line_bytes (b ∷ bs))) ≡ false = grind (arith, short) in
    ap (λ t. cond t (Unread fault.Limit) (line_or_fault (option_and_then meaning (decoded (line_text (b ∷ bs)))) (after_line (b ∷ bs)))) fits
    ∙ ap (λ x. line_or_fault (option_and_then meaning (decoded x)) (after_line (b ∷ bs))) e
    ∙ ap (λ x. line_or_fault (option_and_then meaning (decoded text)) x) f

-- a line whose first bytes are too many
long_front : (meaning : List ℕ → Option (List ℤ)) (front rest : List ℕ) → has_line_feed front ≡ false → 2147483647 < length front → read_line meaning (front ++ rest) ≡ Unread fault.Limit
long_front meaning front rest none long =
    let e : length (line_bytes (front ++ rest)) ≡ length front + length (line_bytes rest) = ap length (line_bytes-past front rest none) ∙ length-append front (line_bytes rest) in
    read_too_long meaning (front ++ rest) (omega arith)

-- ---- A line that a line feed ends

either_false : (a b : Bool) → (a || b) ≡ false → (a ≡ false) × (b ≡ false)
either_false true b h = cc
either_false false b h = (refl, h)

feed_append : (a b : List ℕ) → has_line_feed (a ++ b) ≡ (has_line_feed a || has_line_feed b)
feed_append [] b = refl
feed_append (x ∷ a) b = by_test (nat_eq x 10) (feed_append a b)
  where
    by_test : (t : Bool) → has_line_feed (a ++ b) ≡ (has_line_feed a || has_line_feed b) → (t || has_line_feed (a ++ b)) ≡ ((t || has_line_feed a) || has_line_feed b)
    by_test true h = refl
    by_test false h = h

-- all but the last, and the last
last_apart : (xs : List ℕ) (n : ℕ) → length xs ≡ suc n → xs ≡ take n xs ++ get_or xs n 0 ∷ []
last_apart xs n e = sym (take_all (suc n) xs (omega arith)) ∙ take-suc xs n 0 (omega arith)

return_text : (front rest : List ℕ) (n : ℕ) → length front ≡ suc n → has_line_feed front ≡ false → get_or front n 0 ≡ 13 → line_text (front ++ 10 ∷ rest) ≡ take n front
return_text front rest n e none is =
    let apart : front ≡ take n front ++ 13 ∷ [] = last_apart front n e ∙ ap (λ b. take n front ++ b ∷ []) is in
    let clear : has_line_feed (take n front) ≡ false = (either_false _ _ (sym (feed_append (take n front) (13 ∷ [])) ∙ ap has_line_feed (sym apart) ∙ none)).0 in
    ap (λ l. line_text (l ++ 10 ∷ rest)) apart
    ∙ ap line_text (append_assoc (take n front) (13 ∷ []) (10 ∷ rest))
    ∙ text_of_return (take n front) rest clear

other_text : (front rest : List ℕ) (n : ℕ) → length front ≡ suc n → has_line_feed front ≡ false → nat_eq (get_or front n 0) 13 ≡ false → line_text (front ++ 10 ∷ rest) ≡ front
other_text front rest n e none is =
    let b : ℕ = get_or front n 0 in
    let apart : front ≡ take n front ++ b ∷ [] = last_apart front n e in
    let both = either_false _ _ (sym (feed_append (take n front) (b ∷ [])) ∙ ap has_line_feed (sym apart) ∙ none) in
    let no_feed : nat_eq b 10 ≡ false = (either_false _ _ both.1).0 in
    ap (λ l. line_text (l ++ 10 ∷ rest)) apart
    ∙ ap line_text (append_assoc (take n front) (b ∷ []) (10 ∷ rest))
    ∙ text_of_other (take n front) b rest both.0 no_feed is
    ∙ sym apart

front_length : (bytes : List ℕ) (feed : ℕ) → feed < length bytes → length (take feed bytes) ≡ feed
front_length bytes feed h = length-take-le feed bytes (omega arith)

-- a line feed after too many bytes
pub fed_long : (bytes : List ℕ) (feed : ℕ) (ended : Bool) → IsFirstFeed bytes feed → 2147483647 < feed → IsNoLine bytes ended fault.Limit
fed_long bytes feed ended is long =
    let len = front_length bytes feed is.within in
    record {
      reads = λ meaning more none.
          ap (λ l. read_line meaning (l ++ more)) is.here
          ∙ ap (read_line meaning) (append_assoc (take feed bytes) (10 ∷ drop (feed + 1) bytes) more)
          ∙ long_front meaning (take feed bytes) (10 ∷ (drop (feed + 1) bytes ++ more)) is.before (omega arith);
    }

fed_is : (bytes : List ℕ) (feed text : ℕ) (ended : Bool) → IsFirstFeed bytes feed → feed ≤ 2147483647 → text ≤ feed → ((rest : List ℕ) → line_text (take feed bytes ++ 10 ∷ rest) ≡ take text bytes) → IsLine bytes ended (record { text = text; taken = feed + 1 })
fed_is bytes feed text ended is short within text_is =
    let w = is.within in
    record {
      text_in = omega arith;
      taken_in = omega arith;
      reads = λ meaning more none.
          let rest : List ℕ = drop (feed + 1) bytes ++ more in
          let e : bytes ++ more ≡ take feed bytes ++ 10 ∷ rest = ap (λ l. l ++ more) is.here ∙ append_assoc (take feed bytes) (10 ∷ drop (feed + 1) bytes) more in
          let len = front_length bytes feed w in
          let line : line_bytes (take feed bytes ++ 10 ∷ rest) ≡ take feed bytes = line_bytes-past (take feed bytes) (10 ∷ rest) is.before ∙ append-nil (take feed bytes) in
          let line_len : length (line_bytes (take feed bytes ++ 10 ∷ rest)) ≡ feed = ap length line ∙ len in
          let some : length (take feed bytes ++ 10 ∷ rest) ≡ feed + length (10 ∷ rest) = length-append (take feed bytes) (10 ∷ rest) ∙ ap (λ n. n + length (10 ∷ rest)) len in
          ap (read_line meaning) e
          ∙ line_reads meaning (take feed bytes ++ 10 ∷ rest) (take text bytes) rest (omega arith) (omega arith) (text_is rest) (after_line-past (take feed bytes) (10 ∷ rest) is.before);
    }

-- nothing stands before the line feed
pub fed_empty : (bytes : List ℕ) (feed : ℕ) (ended : Bool) → IsFirstFeed bytes feed → feed ≡ 0 → IsLine bytes ended (record { text = 0; taken = 1 })
fed_empty bytes feed ended is none = fed_is bytes 0 0 ended (subst (IsFirstFeed bytes) none is) (omega arith) (omega arith) (λ rest. refl)

get_front : (bytes : List ℕ) (feed n : ℕ) → feed < length bytes → n < feed → get_or (take feed bytes) n 0 ≡ get_or bytes n 0
get_front bytes feed n h i = get_or-take feed bytes n 0 i

pub fed_return : (bytes : List ℕ) (feed : ℕ) (ended : Bool) → IsFirstFeed bytes feed → feed ≤ 2147483647 → 0 < feed → get_or bytes (feed - 1) 0 ≡ 13 → IsLine bytes ended (record { text = feed - 1; taken = feed + 1 })
fed_return bytes feed ended is short some return =
    let len = front_length bytes feed is.within in
    let w = is.within in
    fed_is bytes feed (feed - 1) ended is short (omega arith) (λ rest.
    return_text (take feed bytes) rest (feed - 1) (omega arith) is.before (get_front bytes feed (feed - 1) w (omega arith) ∙ return) ∙ take-take (feed - 1) feed bytes (omega arith))

unequal : (b : ℕ) → (b ≡ 13 → ⊥) → nat_eq b 13 ≡ false
unequal b h = grind (arith, h)

pub fed_other : (bytes : List ℕ) (feed : ℕ) (ended : Bool) → IsFirstFeed bytes feed → feed ≤ 2147483647 → 0 < feed → (get_or bytes (feed - 1) 0 ≡ 13 → ⊥) → IsLine bytes ended (record { text = feed; taken = feed + 1 })
fed_other bytes feed ended is short some return =
    let other : nat_eq (get_or bytes (feed - 1) 0) 13 ≡ false = unequal (get_or bytes (feed - 1) 0) return in
    let len = front_length bytes feed is.within in
    let w = is.within in
    fed_is bytes feed feed ended is short (omega arith) (λ rest.
    other_text (take feed bytes) rest (feed - 1) (omega arith) is.before (ap (λ b. nat_eq b 13) (get_front bytes feed (feed - 1) w (omega arith)) ∙ other))

-- ---- A line that the end of the input ends

pub last_none : (bytes : List ℕ) → length bytes ≡ 0 → IsNoLine bytes true fault.Input
last_none [] e = record { reads = λ meaning more none. ap (read_line meaning) (none refl) }
last_none (b ∷ bs) e = absurd (omega arith)

pub last_is : (bytes : List ℕ) → has_line_feed bytes ≡ false → 0 < length bytes → length bytes ≤ 2147483647 → IsLine bytes true (record { text = length bytes; taken = length bytes })
last_is bytes clear some short = record {
  text_in = omega arith;
  taken_in = omega arith;
  reads = λ meaning more none.
      let m : more ≡ [] = none refl in
      let e : bytes ++ more ≡ bytes = ap (λ l. bytes ++ l) m ∙ append-nil bytes in
      let line : line_bytes bytes ≡ bytes = ap line_bytes (sym (append-nil bytes)) ∙ line_bytes-past bytes [] clear ∙ append-nil bytes in
      let line_len : length (line_bytes bytes) ≡ length bytes = ap length line in
      let after : after_line bytes ≡ [] = ap after_line (sym (append-nil bytes)) ∙ after_line-past bytes [] clear in
      let left : [] ≡ drop (length bytes) bytes ++ more = sym (ap (λ l. drop (length bytes) bytes ++ l) m ∙ append-nil (drop (length bytes) bytes) ∙ drop_all (length bytes) bytes (omega arith)) in
      ap (read_line meaning) e
      ∙ line_reads meaning bytes (take (length bytes) bytes) (drop (length bytes) bytes ++ more) some (omega arith) (text_of_all bytes clear ∙ sym (take_all (length bytes) bytes (omega arith))) (after ∙ left);
}

-- too many bytes without a line feed
pub clear_long : (bytes : List ℕ) (ended : Bool) → has_line_feed bytes ≡ false → 2147483647 < length bytes → IsNoLine bytes ended fault.Limit
clear_long bytes ended clear long = record { reads = λ meaning more none. long_front meaning bytes more clear long }

pub ruleset ends = (last_none, last_is)

-- ---- The first line feed

abbrev is_feed : ℕ → Bool
is_feed b = nat_eq b 10

none_from : (i : ℕ) (bs : List ℕ) → position_from is_feed i bs ≡ None → has_line_feed bs ≡ false
none_from i [] e = refl
none_from i (b ∷ bs) e = by_test (nat_eq b 10) (none_from (i + 1) bs) e
  where
    by_test : (t : Bool) → (position_from is_feed (i + 1) bs ≡ None → has_line_feed bs ≡ false) → cond t (Some i) (position_from is_feed (i + 1) bs) ≡ None → (t || has_line_feed bs) ≡ false
    by_test true later h = cc
    by_test false later h = later h

record Feed (i n : ℕ) (bs : List ℕ) : Type 0 where
  count : ℕ
  place : n ≡ i + count
  first : IsFirstFeed bs count

some_from : (i n : ℕ) (bs : List ℕ) → position_from is_feed i bs ≡ Some n → Feed i n bs
some_from i n [] e = cc
some_from i n (b ∷ bs) e = by_test (nat_eq b 10) refl (some_from (i + 1) n bs) e
  where
    by_test : (t : Bool) → nat_eq b 10 ≡ t → (position_from is_feed (i + 1) bs ≡ Some n → Feed (i + 1) n bs) → cond t (Some i) (position_from is_feed (i + 1) bs) ≡ Some n → Feed i n (b ∷ bs)
    by_test true is later h =
        let ten : b ≡ 10 = grind (arith, is) in
        let same : i ≡ n = cc in
        record {
          count = 0;
          place = omega arith;
          first = record { before = refl; here = ap (λ c. c ∷ bs) ten; within = omega arith };
        }
    by_test false is later h =
        let f : Feed (i + 1) n bs = later h in
        let p = f.place in
        let w = f.first.within in
        let after : suc (f.count + 1) ≡ suc f.count + 1 = omega arith in
        let next : f.count + 1 ≡ suc f.count = omega arith in
        record {
          count = f.count + 1;
          place = omega arith;
          first = subst (λ k. IsFirstFeed (b ∷ bs) k) (sym next) (record {
            before = ap (λ t. t || has_line_feed (take f.count bs)) is ∙ f.first.before;
            here = ap (λ l. b ∷ l) f.first.here ∙ ap (λ k. b ∷ (take f.count bs ++ 10 ∷ drop k (b ∷ bs))) after;
            within = omega arith;
          });
        }

-- none in the rest, none at all
pub none_found : (bytes slice rest : List ℕ) (clear : ℕ) (found : Option ℕ) → has_line_feed (take clear bytes) ≡ false → slice ≡ bytes → rest ≡ drop clear slice → found ≡ position is_feed rest → found ≡ None → has_line_feed bytes ≡ false
none_found bytes slice back clear found before same is finds none =
    let e : None ≡ position is_feed (drop clear bytes) = sym none ∙ finds ∙ ap (position is_feed) (is ∙ ap (drop clear) same) in
    let rest : has_line_feed (drop clear bytes) ≡ false = none_from 0 (drop clear bytes) (sym (position_from-zero is_feed (drop clear bytes)) ∙ sym e) in
    ap has_line_feed (sym (take-append-drop clear bytes))
    ∙ feed_append (take clear bytes) (drop clear bytes)
    ∙ ap (λ t. t || has_line_feed (drop clear bytes)) before
    ∙ rest

append_front : (xs ys : List ℕ) (n : ℕ) → take (length xs + n) (xs ++ ys) ≡ xs ++ take n ys
append_front xs ys n = take-append-add xs ys n

-- the first one of the rest is the first one of all
pub feed_found : (bytes : List ℕ) (clear n : ℕ) → clear ≤ length bytes → has_line_feed (take clear bytes) ≡ false → Some n ≡ position is_feed (drop clear bytes) → IsFirstFeed bytes (clear + n)
feed_found bytes clear n within before e =
    let f : Feed 0 n (drop clear bytes) = some_from 0 n (drop clear bytes) (sym (position_from-zero is_feed (drop clear bytes)) ∙ sym e) in
    let place : n ≡ 0 + f.count = f.place in
    let same : f.count ≡ n = omega arith in
    let first : IsFirstFeed (drop clear bytes) n = subst (λ k. IsFirstFeed (drop clear bytes) k) same f.first in
    let rest = length-drop clear bytes in
    let w = first.within in
    let len : length (take clear bytes) ≡ clear = length-take-le clear bytes within in
    let upto : take (clear + n) bytes ≡ take clear bytes ++ take n (drop clear bytes) =
    ap (λ l. take (clear + n) l) (sym (take-append-drop clear bytes)) ∙ ap (λ k. take (k + n) (take clear bytes ++ drop clear bytes)) (sym len) ∙ append_front (take clear bytes) (drop clear bytes) n in
    record {
      before = ap has_line_feed upto ∙ feed_append (take clear bytes) (take n (drop clear bytes)) ∙ ap (λ t. t || has_line_feed (take n (drop clear bytes))) before ∙ first.before;
      here =
          sym (take-append-drop clear bytes)
          ∙ ap (λ l. take clear bytes ++ l) first.here
          ∙ sym (append_assoc (take clear bytes) (take n (drop clear bytes)) (10 ∷ drop (n + 1) (drop clear bytes)))
          ∙ ap (λ l. l ++ 10 ∷ drop (n + 1) (drop clear bytes)) (sym upto)
          ∙ ap (λ l. take (clear + n) bytes ++ 10 ∷ l) (drop-drop (n + 1) clear bytes ∙ ap (λ k. drop k bytes) (omega arith));
      within = omega arith;
    }

-- ---- Reads

-- one read gave its bytes
pub fetch_ok : (old piece : List ℕ) (n : ℕ) (s t : SourceState) → n ≤ length piece → SourceGives (take n piece) s t → (n ≡ 0 → IsAtEnd t) → Fetched old s (old ++ take n piece) (n == 0) t
fetch_ok old piece n s t within gives end = record {
  taken = take n piece;
  items = refl;
  gives = gives;
  end = λ ended. end (is_none n ended);
  goes = λ none. let len = length-take-le n piece within in was_none n (omega arith);
}
  where
    is_none : (n : ℕ) → IsTrue (n == 0) → n ≡ 0
    is_none n h = grind (arith, h)

    was_none : (n : ℕ) → n ≡ 0 → IsTrue (n == 0)
    was_none n e = grind (arith, e)

pub ruleset fetches = (fetch_ok)

pub gathered_none : (a : List ℕ) (w : Bool) (s : SourceState) → Gathered a w s a w s
gathered_none a w s = record {
  taken = [];
  items = sym (append-nil a);
  gives = gives-nil s;
  end = λ at_end ended. at_end ended;
  still = λ was. (refl, refl, was);
}

not_true : (b : Bool) → b ≡ false → IsTrue b → ⊥
not_true true e h = cc
not_true false e h = cc

-- one more read
pub gathered_on : (a b c : List ℕ) (w e f : Bool) (s t u : SourceState) → e ≡ false → Gathered a w s b e t → Fetched b t c f u → Gathered a w s c f u
gathered_on a b c w e f s t u unmet g x = record {
  taken = g.taken ++ x.taken;
  items = x.items ∙ ap (λ l. l ++ x.taken) g.items ∙ append_assoc a g.taken x.taken;
  gives = gives-gives g.taken x.taken s t u g.gives x.gives;
  end = λ at_end ended. x.end ended;
  still = λ was. let ended : IsTrue e = (g.still was).2 in absurd (not_true e unmet ended);
}

-- no memory was left for another
pub gathered_kept : (a b c : List ℕ) (w e f : Bool) (s t u : SourceState) → Gathered a w s b e t → (c ≡ b) × (f ≡ e) × (u ≡ t) → Gathered a w s c f u
gathered_kept a b c w e f s t u g h =
    subst (λ l. Gathered a w s l f u) (sym h.0) (subst (λ x. Gathered a w s b x u) (sym h.1) (subst (λ x. Gathered a w s b e x) (sym h.2) g))

-- another failed
pub missed_on : (a b c : List ℕ) (w e f : Bool) (s t u : SourceState) → e ≡ false → Gathered a w s b e t → (c ≡ b) × (f ≡ e) × SourceFails t u → Missed a w s c f u
missed_on a b c w e f s t u unmet g h = record {
  left = t;
  gathered = subst (λ l. Gathered a w s l f t) (sym h.0) (subst (λ x. Gathered a w s b x t) (sym h.1) g);
  asked = λ ended. not_true f (h.1 ∙ unmet) ended;
  fails = h.2;
}

-- all that there was before a read is free of line feeds
pub clear_on : (b c : List ℕ) (f : Bool) (t u : SourceState) → has_line_feed b ≡ false → Fetched b t c f u → has_line_feed (take (length b) c) ≡ false
clear_on b c f t u clear x = ap (λ l. has_line_feed (take (length b) l)) x.items ∙ ap has_line_feed (take_at b x.taken (length b) refl) ∙ clear

-- it left less to read, or met the end
pub fetched_less : (b c : List ℕ) (e f : Bool) (t u : SourceState) → e ≡ false → length b ≤ 2147483647 → Fetched b t c f u → 2 * (2147483648 - length c) + cond f 0 1 < 2 * (2147483648 - length b) + cond e 0 1
fetched_less b c true f t u unmet short x = cc
fetched_less b c false f t u unmet short x = by_end f x.goes (ap length x.items ∙ length-append b x.taken)
  where
    is_false : IsTrue false → ⊥
    is_false h = cc

    by_count : (n : ℕ) → (n ≡ 0 → IsTrue false) → length c ≡ length b + n → 2 * (2147483648 - length c) + 1 < 2 * (2147483648 - length b) + 1
    by_count zero goes len = absurd (is_false (goes refl))
    by_count (suc n) goes len = omega arith

    by_end : (f : Bool) → (length x.taken ≡ 0 → IsTrue f) → length c ≡ length b + length x.taken → 2 * (2147483648 - length c) + cond f 0 1 < 2 * (2147483648 - length b) + 1
    by_end true goes len = omega arith
    by_end false goes len = by_count (length x.taken) goes len

pub fetched_longer : (b c : List ℕ) (f : Bool) (t u : SourceState) → Fetched b t c f u → length b ≤ length c
fetched_longer b c f t u x = let len = ap length x.items ∙ length-append b x.taken in omega arith

pub ruleset gathers = (feed_found, gathered_none, gathered_on, gathered_kept, missed_on, clear_on, fetched_less, fetched_longer)
