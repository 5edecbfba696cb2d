use Rattle.std.proofs.Common.{◌≡◌, ◌+◌, arith, ap, sym, ◌∙◌, drop}
use Rattle.aplc_lex.specs.Heads.{text_bytes}
use Rattle.aplc_lex.proofs.Values.{text_double, quote_in}
use Rattle.aplc_lex.proofs.runs.text_run.Goals as goal

pub loop-i-preserved-then-quote_at : goal.loop-i-preserved-then-quote_at
loop-i-preserved-then-quote_at c =
    let q = sym c.quote_at.ensures ∙ c.if-quote_at.true in
    let g = quote_in c.args.bytes.now (c.loop-i.i + 1) q in
    let z : c.loop-i.i + 2 + 1 ≡ c.loop-i.i + 1 + 2 = omega arith in
    record {
      bytes = ap (λ n. text_bytes n (drop (c.loop-i.i + 2) c.args.bytes.now)) z
          ∙ text_double c.args.bytes.now (c.loop-i.i + 1) c.loop-i.i (omega arith) (sym c.is_line_feed.ensures ∙ c.if-is_line_feed.false) (sym c.is_quote.ensures ∙ c.if-is_quote.true) q
          ∙ c.loop-i.invariant.bytes;
      room = omega (arith, g.0);
    }
