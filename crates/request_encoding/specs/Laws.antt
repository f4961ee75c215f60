-- Which keys can be told.
use Rattle.std.specs.Prelude.{◌≡◌, true}
use Rattle.spec_api.specs.Keys.{Key, is_namespace, is_subdomain}
use Rattle.request_encoding.specs.Texts.{is_address}

-- a path can name each object whose namespace and name are as they have to be, so each that is stored
abbrev pub StoredKeysAreAddresses : Type 0
StoredKeysAreAddresses = (k : Key) → is_namespace k.namespace ≡ true → is_subdomain k.name ≡ true → is_address k ≡ true
