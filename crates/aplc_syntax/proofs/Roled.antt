-- The roles of names, and the headers of functions, by loops.
use Rattle.std.proofs.Common.{◌≡◌, ℕ, zero, suc, ◌+◌, ◌≤◌, ◌<◌, Bool, true, false, List, [], ◌∷◌, ◌++◌, Some, refl, sym, ap, ◌∙◌, subst, length, take, drop, get_or, set, replicate, nat_eq, arith, map, append_assoc, length-set}
use Rattle.std.specs.Prelude.{All, if◌then◌else◌}
use Rattle.std.proofs.lemmas.Bool.Decides.{nat_tests}
use Rattle.std.proofs.lemmas.List.{map_push, drop_more, drop_all, length-replicate}
use Rattle.std.proofs.lemmas.List.Elements.{All-more, All-weaker, All-get_or}
use Rattle.aplc_syntax.specs.declared.header.Header.{Header as HeldHeader}
use Rattle.aplc_syntax.specs.declared.word.Role.{Role}
use Rattle.aplc_syntax.specs.declared.word.Role.TheVariants as role
use Rattle.aplc_syntax.specs.Layout.{Header, known, role_of}
use Rattle.aplc_syntax.specs.Held.{header_of_held, role_at, AreRoles}

pub header_more : (old new : List HeldHeader) (h : HeldHeader) (rest : List Header) → new ≡ old ++ h ∷ [] → map header_of_held new ++ rest ≡ map header_of_held old ++ (header_of_held h ∷ rest)
header_more old new h rest e = ap (λ (hs : List HeldHeader). map header_of_held hs ++ rest) e ∙ ap (λ (hs : List Header). hs ++ rest) (map_push header_of_held old h) ∙ append_assoc (map header_of_held old) (header_of_held h ∷ []) rest

pub ruleset roled = (header_more)

-- ---- How many names

pub count_more : (hs : List HeldHeader) (i : ℕ) (x : HeldHeader) (m n : ℕ) → i < length hs → x ≡ get_or hs i x → m ≤ n → x.name.name.0 < n → All (λ (h : HeldHeader). h.name.name.0 < m) (take i hs) → All (λ (h : HeldHeader). h.name.name.0 < n) (take (i + 1) hs)
count_more hs i x m n l e le h a = All-more (λ (y : HeldHeader). y.name.name.0 < n) hs i x l (All-weaker (λ (y : HeldHeader). y.name.name.0 < m) (λ (y : HeldHeader). y.name.name.0 < n) (λ y g. omega arith) (take i hs) a) (subst (λ (y : HeldHeader). y.name.name.0 < n) e h)

-- ---- Roles

role_set : (roles : List Role) (n k : ℕ) (r : Role) → n < length roles → role_at (set roles n r) k ≡ (if nat_eq n k then r else role_at roles k)
role_set [] n k r h = absurd (omega arith)
role_set (x ∷ xs) zero zero r h = refl
role_set (x ∷ xs) zero (suc k) r h = let e : nat_eq zero (suc k) ≡ false = grind (arith, nat_tests) in sym (ap (λ (b : Bool). if b then r else role_at xs k) e)
role_set (x ∷ xs) (suc n) zero r h = let e : nat_eq (suc n) zero ≡ false = grind (arith, nat_tests) in sym (ap (λ (b : Bool). if b then r else x) e)
role_set (x ∷ xs) (suc n) (suc k) r h = role_set xs n k r (omega arith) ∙ ap (λ (b : Bool). if b then r else role_at xs k) (sym (next n k))
  where
    next : (a b : ℕ) → nat_eq (suc a) (suc b) ≡ nat_eq a b
    next a b = pick (nat_eq a b) refl
      where
        pick : (t : Bool) → nat_eq a b ≡ t → nat_eq (suc a) (suc b) ≡ nat_eq a b
        pick true e = let g : nat_eq (suc a) (suc b) ≡ true = grind (arith, nat_tests) in g ∙ sym e
        pick false e = let g : nat_eq (suc a) (suc b) ≡ false = grind (arith, nat_tests) in g ∙ sym e

role_known : (h : Header) (hs : List Header) (n : ℕ) → role_of (known (h ∷ hs) n) ≡ (if nat_eq h.name.name.0 n then role_of (Some h) else role_of (known hs n))
role_known h hs n = elim (nat_eq h.name.name.0 n) as (λ b. role_of (if b then Some h else known hs n) ≡ (if b then role_of (Some h) else role_of (known hs n))) [ true ↦ refl | false ↦ refl ]

no_roles : (c n : ℕ) → role_at (replicate c role.Variable) n ≡ role.Variable
no_roles zero n = refl
no_roles (suc c) zero = refl
no_roles (suc c) (suc n) = no_roles c n

pub roles_start : (hs : List HeldHeader) (i c : ℕ) (roles : List Role) → roles ≡ replicate c role.Variable → length hs ≤ i → AreRoles roles (map header_of_held (drop i hs))
roles_start hs i c roles e l = λ n. ap (λ (rs : List Role). role_at rs n) e ∙ no_roles c n ∙ sym (ap (λ (ks : List HeldHeader). role_of (known (map header_of_held ks) n)) (drop_all i hs l))

pub roles_more : (hs : List HeldHeader) (i j : ℕ) (x : HeldHeader) (roles new : List Role) (r : Role) → i < length hs → j ≡ i + 1 → x ≡ get_or hs i x → r ≡ role_of (Some (header_of_held x)) → new ≡ set roles x.name.name.0 r → x.name.name.0 < length roles
    → AreRoles roles (map header_of_held (drop j hs)) → AreRoles new (map header_of_held (drop i hs))
roles_more hs i j x roles new r l k e p q b h = λ n.
    ap (λ (rs : List Role). role_at rs n) q ∙ role_set roles x.name.name.0 n r b
    ∙ ap (λ (y : Role). if nat_eq x.name.name.0 n then y else role_at roles n) p
    ∙ ap (λ (y : Role). if nat_eq x.name.name.0 n then role_of (Some (header_of_held x)) else y) (h n ∙ ap (λ (m : ℕ). role_of (known (map header_of_held (drop m hs)) n)) k)
    ∙ sym (ap (λ (ks : List HeldHeader). role_of (known (map header_of_held ks) n)) (drop_more hs i x l ∙ ap (λ (y : HeldHeader). y ∷ drop (i + 1) hs) (sym e)) ∙ role_known (header_of_held x) (map header_of_held (drop (i + 1) hs)) n)

pub within_start : (hs : List HeldHeader) (c : ℕ) (roles : List Role) → roles ≡ replicate c role.Variable → All (λ (h : HeldHeader). h.name.name.0 < c) hs → All (λ (h : HeldHeader). h.name.name.0 < length roles) hs
within_start hs c roles e a = subst (λ (n : ℕ). All (λ (h : HeldHeader). h.name.name.0 < n) hs) (sym (ap (λ (rs : List Role). length rs) e ∙ length-replicate c role.Variable)) a

pub within_more : (hs : List HeldHeader) (n : ℕ) (r : Role) (roles : List Role) → All (λ (h : HeldHeader). h.name.name.0 < length roles) hs → All (λ (h : HeldHeader). h.name.name.0 < length (set roles n r)) hs
within_more hs n r roles a = subst (λ (k : ℕ). All (λ (h : HeldHeader). h.name.name.0 < k) hs) (sym (length-set roles n r)) a

pub within_at : (hs : List HeldHeader) (i n : ℕ) (x : HeldHeader) → i < length hs → x ≡ get_or hs i x → All (λ (h : HeldHeader). h.name.name.0 < n) hs → x.name.name.0 < n
within_at hs i n x l e a = subst (λ (y : HeldHeader). y.name.name.0 < n) (sym e) (All-get_or (λ (h : HeldHeader). h.name.name.0 < n) hs i x l a)
