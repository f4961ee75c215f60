-- What the code's results say of queries of collections.
use Rattle.std.specs.Prelude.{◌≡◌, option_map, Result, Ok, Err}
use Rattle.spec_api.specs.declared.refusals.Part.{Part}
use Rattle.spec_api.specs.declared.refusals.Part.TheVariants as part
use Rattle.spec_api.specs.ListQueries as collections
use Rattle.spec_api.specs.Pages.{Place}
use Rattle.spec_api.specs.PageTokens.{token_place}
use Rattle.pages.specs.Seen.{token_of}
use Rattle.pages.specs.declared.tokens.Token.{Token}
use Rattle.request_parts.specs.declared.collections.Collection.{Collection}
use Rattle.request_parts.specs.declared.collections.CollectionRead.{CollectionRead}
use Rattle.request_parts.specs.declared.collections.CollectionRead.TheVariants.{List, Watch}
use Rattle.request_parts.specs.declared.faults.QueryFault.{QueryFault}
use Rattle.request_parts.specs.declared.faults.QueryFault.TheVariants.{BadQuery, BadToken, NoMemory}
use Rattle.request_parts.specs.declared.list_options.ListOptions.{ListOptions}
use Rattle.request_parts.specs.declared.watch_options.WatchOptions.{WatchOptions}

-- where a token's page ended
abbrev pub place_seen : Token → Place
place_seen t = token_place (token_of t)

-- the options of a list and of a watch as the definitions say them
abbrev pub list_seen : ListOptions → collections.ListOptions
list_seen o = record { at = o.at; limit = o.limit; after = option_map place_seen o.after }

abbrev pub watch_seen : WatchOptions → collections.WatchOptions
watch_seen o = record { start = o.start; bookmarks = o.bookmarks }

abbrev pub read_seen : CollectionRead → collections.Read
read_seen (List o) = collections.list (list_seen o)
read_seen (Watch o) = collections.watch (watch_seen o)

abbrev pub collection_seen : Collection → collections.Collection
collection_seen c = record { labels = c.labels; fields = c.fields; read = read_seen c.read }

-- the result, seen so, is the one wanted, or the fault is of the part that is not understood; or memory ran out
abbrev pub Gives : {A B : Type 0} → (A → B) → Result B Part → Result A QueryFault → Type 0
Gives seen wanted (Ok a) = wanted ≡ Ok (seen a)
Gives seen wanted (Err BadQuery) = wanted ≡ Err part.Query
Gives seen wanted (Err BadToken) = wanted ≡ Err part.Token
Gives seen wanted (Err NoMemory) = Unit {0}
