-- Where the host of the runtime sends its text.
use Rattle.aplc_io.specs.declared.file_host.Place.{Place}
use Rattle.aplc_io.specs.declared.file_host.Place.TheVariants.{Output, File, Nowhere, Broken}
use Rattle.aplc_io.specs.Adapters.{Route}
use Rattle.aplc_io.specs.Adapters.Route.{ToOutput, ToFile, ToNowhere, ToFault}

-- the way that a place is
abbrev pub route : Place → Route
route Output = ToOutput
route (File file) = ToFile
route Nowhere = ToNowhere
route Broken = ToFault
