-- What a chunk of a list says.
use Rattle.std.specs.Prelude.{◌≡◌, ◌≤◌, ◌<◌, ◌==◌, ◌++◌, ℕ, [], length, false, map, Option, option_map}
use Rattle.spec_api.specs.History.{View, Entries}
use Rattle.spec_api.specs.Lists.{is_selective}
use Rattle.spec_api.specs.Pages.{Place, place_of, page_of, remaining}
use Rattle.object_keys.specs.Keys.{key_of}
use Rattle.meta.specs.Members.{member_of}
use Rattle.object_keys.specs.declared.key.Key.{Key}
use Rattle.store.specs.declared.chunks.Chunk.{Chunk}

-- the place of a key, where one is given
abbrev pub after_key : Option Key → Option Place
after_key o = option_map (λ k. place_of (key_of k)) o

-- a count says how many there are, or where the view selects, whether there are any
pub record Tells (v : View) (left count : ℕ) : Type 0 where
  pub whether : (count == 0) ≡ (left == 0)
  pub number : is_selective v ≡ false → count ≡ left

-- the chunk is the page of these members, the list of the view, after a place, and tells how many remain
pub record IsPage (v : View) (listed : Entries) (limit : ℕ) (after : Option Place) (c : Chunk) : Type 0 where
  pub items : map member_of c.members.items ≡ (page_of listed limit after).items
  pub rest : Tells v (remaining listed limit after) c.remaining

-- these are the first of all, as many as the limit, or all where it is 0 or there are not as many, and those are left
pub record IsFirst (limit : ℕ) (all taken left : Entries) : Type 0 where
  pub split : taken ++ left ≡ all
  pub few : 0 < limit → length taken ≤ limit
  pub short : length taken < limit → left ≡ []
  pub unlimited : limit ≡ 0 → left ≡ []
