-- Fixed texts.
use Rattle.std.proofs.Common.{subst₂, ◌≡◌, ◌∙◌, ap, sym, refl, subst, ℕ, List, [], ◌∷◌, ◌++◌, append_assoc, Some}
use Rattle.std.proofs.lemmas.List.{append_cancel_left, append-nil}
use Rattle.aplc_cread.specs.Reading.{first, Found, Stops, Any, Lit, Common}

pub common_start : (text input : List ℕ) → Common text input text input
common_start text input = record { done = []; of_text = refl; of_input = refl }

pub common_more : {text input : List ℕ} {c : ℕ} {t rest : List ℕ} → Common text input (c ∷ t) (c ∷ rest) → Common text input t rest
common_more {text} {input} {c} {t} {rest} h = record {
  done = h.done ++ (c ∷ []);
  of_text = h.of_text ∙ sym (append_assoc h.done (c ∷ []) t);
  of_input = h.of_input ∙ sym (append_assoc h.done (c ∷ []) rest);
}

pub common_found : {text input rest : List ℕ} → Common text input [] rest → Found Any (Lit text) input tt rest
common_found {text} {input} {rest} h = record {
  text = h.done;
  here = h.of_input;
  is = sym (h.of_text ∙ append-nil h.done);
  only = λ b w k v m hk hv e. (refl, append_cancel_left h.done k v (ap (λ x. x ++ k) (sym (m ∙ h.of_text ∙ append-nil h.done)) ∙ e));
}

pub common_stops : {text input : List ℕ} {c : ℕ} {t rest : List ℕ} → Common text input (c ∷ t) rest → (first rest ≡ Some c → ⊥) → Stops Any (Lit text) input rest
common_stops {text} {input} {c} {t} {rest} h n = record {
  text = h.done;
  here = h.of_input;
  some = (tt, (c ∷ t, sym h.of_text));
  none = λ b w k v m hk hv e.
      let e1 : (c ∷ t) ++ k ≡ v = append_cancel_left h.done ((c ∷ t) ++ k) v (sym (append_assoc h.done (c ∷ t) k) ∙ ap (λ x. x ++ k) (sym (m ∙ h.of_text)) ∙ e) in
      n (sym hv ∙ ap first (sym e1));
}

pub common_next : {text input t rest t1 rest1 : List ℕ} {c d : ℕ} → Common text input t rest → t ≡ c ∷ t1 → rest ≡ d ∷ rest1 → c ≡ d → Common text input t1 rest1
common_next {text} {input} {t} {rest} {t1} {rest1} {c} {d} h e f g =
    common_more (let P : List ℕ → List ℕ → Type 0 = λ x y. Common text input x y in subst₂ P e (f ∙ ap (λ x. x ∷ rest1) (sym g)) h)

pub common_all : {text input t rest : List ℕ} → Common text input t rest → t ≡ [] → Found Any (Lit text) input tt rest
common_all {text} {input} {t} {rest} h e = common_found (subst (λ x. Common text input x rest) e h)

pub common_ends : {text input t rest t1 : List ℕ} {c : ℕ} → Common text input t rest → t ≡ c ∷ t1 → rest ≡ [] → Stops Any (Lit text) input rest
common_ends {text} {input} {t} {rest} {t1} {c} h e f = common_stops (subst (λ x. Common text input x rest) e h) (λ n. cc (n, ap first f))

pub common_differs : {text input t rest t1 rest1 : List ℕ} {c d : ℕ} → Common text input t rest → t ≡ c ∷ t1 → rest ≡ d ∷ rest1 → (c ≡ d → ⊥) → Stops Any (Lit text) input rest
common_differs {text} {input} {t} {rest} {t1} {rest1} {c} {d} h e f g = common_stops (subst (λ x. Common text input x rest) e h) (λ n. g (cc (n, ap first f)))

-- a first byte that was split off
pub lit_found : {s rest : List ℕ} (c : ℕ) → s ≡ c ∷ rest → Found Any (Lit (c ∷ [])) s tt rest
lit_found {s} {rest} c e = common_found (record { done = c ∷ []; of_text = refl; of_input = e })
