-- An object's text, by its text as an item of a list: this with the version and the kind put in, or a text of its own.
use Rattle.std.specs.Prelude.{◌≤◌, ℕ, List, ◌++◌, codes, take, drop, slice_range, string_bytes}
use Rattle.std.specs.Str.{IsCharBoundary}
use Rattle.spec_api.specs.Kinds.{api_version, kind_text}
use Rattle.spec_api.specs.declared.kinds.Kind.{Kind}
use Rattle.meta.specs.declared.whole_texts.Places.{Places}
use Rattle.meta.specs.declared.whole_texts.WholeText.{WholeText}
use Rattle.meta.specs.declared.whole_texts.WholeText.TheVariants as whole

-- a member that others follow, from what stands before its value
abbrev pub named_member : List ℕ → List ℕ → List ℕ
named_member opening value = opening ++ (value ++ codes "\",")

abbrev pub version_member : Kind → List ℕ
version_member k = named_member (codes "\"apiVersion\":\"") (api_version k)

abbrev pub kind_member : Kind → List ℕ
kind_member k = named_member (codes "\"kind\":\"") (kind_text k)

-- the places stand in their order, and no character of the text is cut
pub record AreIn (p : Places) (item : List ℕ) : Type 0 where
  pub order : p.version ≤ p.kind
  pub version : IsCharBoundary item p.version
  pub kind : IsCharBoundary item p.kind

-- the item's text with these members put in
abbrev pub filled : Kind → Places → List ℕ → List ℕ
filled k p item = take p.version item ++ (version_member k ++ (slice_range item p.version p.kind ++ (kind_member k ++ drop p.kind item)))

-- what is stored fits the item's text
abbrev pub Fits : WholeText → List ℕ → Type 0
Fits (whole.Filled p) item = AreIn p item
Fits (whole.Apart s) item = Unit {0}

-- the text that it gives
abbrev pub given : Kind → WholeText → List ℕ → List ℕ
given k (whole.Filled p) item = filled k p item
given k (whole.Apart s) item = string_bytes s
