use Rattle.std.proofs.Common.{◌≡◌, ◌≤◌, ◌∙◌, ap, subst, arith, false, length, take}
use Rattle.aplc_scalar.proofs.InputEnds.{has_line_feed}
use Rattle.aplc_crun.proofs.Gathering.{none_found, clear_long, clear_on, gathered_on, fetched_longer}
use Rattle.aplc_crun.proofs.gather.gather.Goals as goal

pub returns-then-clear-gt-LONGEST-clause-found : goal.returns-then-clear-gt-LONGEST-clause-found
returns-then-clear-gt-LONGEST-clause-found g c =
    let none : has_line_feed c.pieces.ahead.items ≡ false = none_found c.pieces.ahead.items _ _ c.pieces.clear _ c.pieces.invariant.clear c.as_slice.ensures.value c.split_at.ensures.back c.first_feed.ensures c.in-None.is in
    clear_long c.pieces.ahead.items c.pieces.ended none (omega arith)

pub last_line-requires-clause-none : goal.last_line-requires-clause-none
last_line-requires-clause-none g c =
    let none : has_line_feed c.pieces.ahead.items ≡ false = none_found c.pieces.ahead.items _ _ c.pieces.clear _ c.pieces.invariant.clear c.as_slice.ensures.value c.split_at.ensures.back c.first_feed.ensures c.in-None.is in
    ap has_line_feed c.as_slice-then-ended.ensures.value ∙ none

pub pieces-preserved : goal.pieces-preserved
pieces-preserved g c =
    let none : has_line_feed c.pieces.ahead.items ≡ false = none_found c.pieces.ahead.items _ _ c.pieces.clear _ c.pieces.invariant.clear c.as_slice.ensures.value c.split_at.ensures.back c.first_feed.ensures c.in-None.is in
    let unmet : c.pieces.ended ≡ false = c.if-ended.false in
    let long : length c.pieces.ahead.items ≤ length c.fetch.new.ahead.items = fetched_longer _ _ _ _ _ c.in-Ok.ensures.fetched in
    let len : length c.pieces.ahead.items ≡ c.len-clear.result = omega arith in
    record {
      within = omega arith;
      clear = subst (λ n. has_line_feed (take n c.fetch.new.ahead.items) ≡ false) len (clear_on _ _ _ _ _ none c.in-Ok.ensures.fetched);
      once = λ same. let p = c.pieces.invariant.once same in let q = c.fetch.ensures.once (p.0 ∙ unmet) in (q.0, q.1 ∙ p.1);
      gathered = gathered_on _ _ _ _ _ _ _ _ _ unmet c.pieces.invariant.gathered c.in-Ok.ensures.fetched;
    }
