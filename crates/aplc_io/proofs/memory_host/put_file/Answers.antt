use Rattle.std.proofs.Common.{◌≡◌, ◌∙◌, sym, ap, arith, cond, Some, option_map, ℕ, Vec}
use Rattle.std.specs.declared.alloc.Global.{Global}
use Rattle.std.specs.BTreeMap.{get_by_text}
use Rattle.std.specs.Str.{bytes_eq}
use Rattle.std.proofs.lemmas.Map.Text.{text_keys}
use Rattle.aplc_io.proofs.Named.{file_found, cond_map}
use Rattle.aplc_io.proofs.memory_host.put_file.Goals as goal

pub returns-clause-ok : goal.returns-clause-ok
returns-clause-ok c = λ q.
    let step : get_by_text c.insert.new.self q ≡ cond (bytes_eq q c.args.name.now) (Some c.args.bytes) (get_by_text c.args.files.now q) = grind (arith, text_keys) in
    sym (file_found q c.insert.new.self.entries) ∙ ap (option_map (λ (v : Vec ℕ Global). v.items)) step ∙ cond_map (bytes_eq q c.args.name.now) c.args.bytes _ _ (file_found q c.args.files.now.entries)
