-- The layout that is made serves an accepted program, and its code is the program of the definition.
use Rattle.aplc_gen.proofs.Generated.{accepted, layout_fits, code_formed, code_alike, each_ok}
use Rattle.aplc_gen.proofs.generator.generate.Goals as goal

pub layout-requires-clause-sound : goal.layout-requires-clause-sound
layout-requires-clause-sound c =
    let e = c.program-program.ensures in
    (accepted c.args.core.now c.bound.result.now c.bound.ensures.program c.requires.built e.parsed e.clean e.few e.short e.small e.fitting e.names e.named e.below).sound

pub layout-requires-clause-modest : goal.layout-requires-clause-modest
layout-requires-clause-modest c =
    let e = c.program-program.ensures in
    (accepted c.args.core.now c.bound.result.now c.bound.ensures.program c.requires.built e.parsed e.clean e.few e.short e.small e.fitting e.names e.named e.below).modest

pub build-requires : goal.build-requires
build-requires c =
    let e = c.program-program.ensures in
    let h = accepted c.args.core.now c.bound.result.now c.bound.ensures.program c.requires.built e.parsed e.clean e.few e.short e.small e.fitting e.names e.named e.below in
    record { fits = layout_fits c.args.core.now c.in_ok-layout.layout h c.in_ok-layout.ensures }

pub returns-clause-formed : goal.returns-clause-formed
returns-clause-formed c =
    let e = c.program-program.ensures in
    let h = accepted c.args.core.now c.bound.result.now c.bound.ensures.program c.requires.built e.parsed e.clean e.few e.short e.small e.fitting e.names e.named e.below in
    each_ok c.build.result c.build.ensures (λ x is. code_formed c.args.core.now c.in_ok-layout.layout x h c.in_ok-layout.ensures is)

pub returns-clause-alike : goal.returns-clause-alike
returns-clause-alike c =
    let e = c.program-program.ensures in
    let h = accepted c.args.core.now c.bound.result.now c.bound.ensures.program c.requires.built e.parsed e.clean e.few e.short e.small e.fitting e.names e.named e.below in
    each_ok c.build.result c.build.ensures (λ x is. code_alike c.args.core.now c.in_ok-layout.layout x h c.lowered_keeps_runs.ensures.keeps c.in_ok-layout.ensures is)
