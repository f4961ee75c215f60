-- JSON values (RFC 8259), and what is done to them: members set and removed, merge patches.
use Rattle.std.specs.Ordering.{nat_cmp, is_eq}
use Rattle.std.specs.Cmp.Lexicographic.{slice_cmp}
use Rattle.std.specs.Str.{is_utf8}
use Rattle.serde_json.specs.Read.{read}
use Rattle.std.specs.Prelude.{unwrap_or, ℕ, List, Bool, if◌then◌else◌, is_some, Option, Some, None}
pub use Rattle.serde_json.specs.Data.{Data, null, object, Members, no_members, member, put, Items, Num, array, boolean, depth, item, no_items, number, string, unsigned}
pub use Rattle.serde_json.specs.Find.{as_null, get_member, get, as_array, as_bool, as_i64, as_number, as_object, as_str, as_u64}
pub use Rattle.serde_json.specs.Written.{compact_text, has_float}
pub use Rattle.serde_json.specs.Events.{items_len, members_len}

-- the data of a text, if it is JSON in UTF-8 (RFC 8259, Character Encoding)
abbrev pub data_of : List ℕ → Option Data
data_of text = if is_utf8 text then read text else None

-- the value with d at the member k, if it is an object
abbrev pub with_member : List ℕ → Data → Data → Data
with_member k d (object ms) = object (put k d ms)
with_member k d e = e

-- the value with e at the member k, where it has none
abbrev pub with_default : List ℕ → Data → Data → Data
with_default k e d = if is_some (get k d) then d else with_member k e d

-- the members of an object; another value has none
abbrev pub members_of : Data → Members
members_of (object ms) = ms
members_of d = no_members

-- the members of what is there; nothing has none
abbrev pub inner_of : Option Data → Members
inner_of None = no_members
inner_of (Some d) = members_of d

abbrev pub is_null : Data → Bool
is_null d = is_some (as_null d)

-- the members without that at k
abbrev pub without : List ℕ → Members → Members
without k no_members = no_members
without k (member l e ms) = if is_eq (slice_cmp nat_cmp k l) then ms else member l e (without k ms)

-- the value at k, or null
abbrev pub found_or_null : List ℕ → Members → Data
found_or_null k ms = unwrap_or (get_member k ms) null

-- a merge patch (RFC 7396): objects merge, null removes, anything else replaces
abbrev mutual
  pub merged : Data → Data → Data
  merged target (object changes) = object (merged_members (members_of target) changes)
  merged target d = d

  pub merged_members : Members → Members → Members
  merged_members ms no_members = ms
  merged_members ms (member k d changes) = merged_members (if is_null d then without k ms else put k (merged (found_or_null k ms) d) ms) changes
