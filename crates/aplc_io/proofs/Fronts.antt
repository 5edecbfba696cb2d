-- What a read takes from the front of what is left.
use Rattle.std.proofs.Common.{◌≡◌, ℕ, ◌+◌, ◌-◌, ◌≤◌, List, ◌++◌, length, take, drop, sym, ◌∙◌, ap, subst, arith, take-append-drop, length-take-le, length-drop}
use Rattle.std.proofs.lemmas.List.{take_at, take_all, drop-drop}

front_read : (bytes buf copied : List ℕ) (at n : ℕ) → n ≤ length (drop at bytes) → copied ≡ take n (drop at bytes) → drop at bytes ≡ take n (copied ++ drop n buf) ++ drop (at + n) bytes
front_read bytes buf copied at n le is =
    let len : length copied ≡ n = ap length is ∙ length-take-le n (drop at bytes) le in
    let front : take n (copied ++ drop n buf) ≡ copied = take_at copied (drop n buf) n len in
    sym (take-append-drop n (drop at bytes)) ∙ ap (λ (l : List ℕ). l ++ drop n (drop at bytes)) (sym is ∙ sym front) ∙ ap (λ (l : List ℕ). take n (copied ++ drop n buf) ++ l) (drop-drop n at bytes)

-- the same of a slice up to the end
pub slice_read : (bytes buf copied : List ℕ) (at n : ℕ) → n ≤ length (take (length bytes - at) (drop at bytes)) → copied ≡ take n (take (length bytes - at) (drop at bytes)) → drop at bytes ≡ take n (copied ++ drop n buf) ++ drop (at + n) bytes
slice_read bytes buf copied at n le is =
    let all : take (length bytes - at) (drop at bytes) ≡ drop at bytes = take_all _ _ (omega (arith, length-drop at bytes)) in
    front_read bytes buf copied at n (subst (λ (l : List ℕ). n ≤ length l) all le) (is ∙ ap (λ (l : List ℕ). take n l) all)
