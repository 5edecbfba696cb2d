use Rattle.std.proofs.Common.{◌∙◌, ap, Some, option_map, ℕ, List, Vec}
use Rattle.std.specs.declared.alloc.Global.{Global}
use Rattle.aplc_io.proofs.Named.{file_found}
use Rattle.aplc_io.proofs.memory_host.file_bytes.Goals as goal

pub returns-in-None : goal.returns-in-None
returns-in-None c = ap (option_map (λ (v : Vec ℕ Global). v.items)) c.in-None.ensures.value ∙ file_found c.args.name.now c.args.files.now.entries

pub returns-in-Some : goal.returns-in-Some
returns-in-Some c =
    ap (λ (l : List ℕ). Some l) c.as_slice.ensures.value
    ∙ ap (option_map (λ (v : Vec ℕ Global). v.items)) c.in-Some.ensures.value
    ∙ file_found c.args.name.now c.args.files.now.entries
