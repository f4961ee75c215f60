-- What is asked so that an object is there and says what is declared.
use Rattle.std.specs.Prelude.{ℕ, List, [], codes, Bool, not, ◌||◌, Option, Some, None, Result, Ok, unwrap_or, if◌then◌else◌}
use Rattle.serde_json.specs.Data.{Data, object, string, member, no_members}
use Rattle.serde_json.specs.Written.{has_float}
use Rattle.spec_api.specs.Keys.{Key}
use Rattle.spec_api.specs.Metadata.{version}
use Rattle.spec_api.specs.ObjectRequests as words
use Rattle.spec_api.specs.Replacements.{says_the_same}
use Rattle.spec_api.specs.Values.{merged}
use Rattle.keyed_board.specs.declared.failure.Failure.{Failure}
use Rattle.reconciler.specs.Guarded.{guarded}

-- whether an object says something else than with what is declared merged into it (RFC 7396); no object has a number that is not whole
abbrev pub is_other_than : Data → Data → Bool
is_other_than declared seen = has_float (merged seen declared) || not (says_the_same seen (merged seen declared))

-- a patch of a text in the metadata
abbrev pub metadata_patch : List ℕ → List ℕ → Data
metadata_patch name text = object (member (codes "metadata") (object (member name (string text) no_members)) no_members)

-- what is declared, by its name
abbrev pub named : List ℕ → Data → Data
named name declared = merged declared (metadata_patch (codes "name") name)

-- what is declared, with the version that was seen
abbrev pub at_seen_version : Data → Data → Data
at_seen_version seen declared = merged declared (metadata_patch (codes "resourceVersion") (unwrap_or (version seen) []))

-- what is absent is created; what says something else is patched, where it is still as it was seen; and nothing is asked just where it says so already
abbrev pub brings_about : Key → Data → Option Data → Result (Option words.Request) Failure
brings_about k declared None = Ok (Some (words.create_object k.kind k.namespace (named k.name declared)))
brings_about k declared (Some seen) = guarded seen (if is_other_than declared seen then Some (words.patch_object k (at_seen_version seen declared)) else None)
