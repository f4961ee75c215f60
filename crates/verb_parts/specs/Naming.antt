-- In what a stored object is another than the one that is named.
use Rattle.std.specs.Prelude.{Option, Some, None, if◌then◌else◌}
use Rattle.serde_json.specs.Data.{Data}
use Rattle.spec_api.specs.declared.refusals.Mismatch.{Mismatch}
use Rattle.spec_api.specs.declared.refusals.Mismatch.TheVariants as why
use Rattle.spec_api.specs.Metadata.{uid, version, differs}

abbrev pub mismatch : Data → Data → Option Mismatch
mismatch o existing = if differs (uid o) (uid existing) then Some why.Uid else (if differs (version o) (version existing) then Some why.Modified else None)
