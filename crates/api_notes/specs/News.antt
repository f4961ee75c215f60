-- What an answer says of how it goes with a server.
use Rattle.std.specs.Prelude.{ℕ, ◌&&◌, ◌||◌, nat_eq, nat_le, not, if◌then◌else◌, Bool, true, false}
use Rattle.spec_api.specs.ObjectRequests as words
use Rattle.http_client.specs.declared.answer.Answer.{Answer}
use Rattle.http_client.specs.declared.answer.Answer.TheVariants as answer
use Rattle.api_client.specs.declared.opened.Opened.{Opened}
use Rattle.api_client.specs.declared.opened.Opened.TheVariants as opened
use Rattle.list_and_watch.specs.Answered.{is_refusal_of_streams}
use Rattle.list_and_watch.specs.Recognized.{is_refusal}
use Rattle.api_notes.specs.declared.news.News.{News}
use Rattle.api_notes.specs.declared.news.News.TheVariants as news
use Rattle.api_notes.specs.declared.trouble.Trouble.{Trouble}
use Rattle.api_notes.specs.declared.trouble.Trouble.TheVariants as trouble

-- a status code in the place of a watch; with that of success comes something that is no watch
abbrev pub refusal : ℕ → Trouble
refusal code = if nat_eq code 200 then trouble.NotUnderstood else trouble.WatchesRefused code

-- nothing comes of the kind while lists are refused or not answered
abbrev pub list_news : Answer → News
list_news (answer.Replied r) = if nat_eq r.code 200 then news.ListGiven else news.Troubled (trouble.ListsRefused r.code)
list_news answer.NotSent = news.Troubled trouble.NoReply
list_news answer.Lost = news.Troubled trouble.NoReply

-- nor while it is asked again for the first object, as where that is refused for now: after another refusal a list is asked for, which tells
abbrev pub first_news : Answer → News
first_news (answer.Replied r) = if nat_eq r.code 200 || is_refusal r.code then news.Replied else news.Troubled (trouble.ListsRefused r.code)
first_news answer.NotSent = news.Troubled trouble.NoReply
first_news answer.Lost = news.Troubled trouble.NoReply

-- nor while watches are refused or not answered; after one that has expired a list is asked for
abbrev pub watch_news : Opened → News
watch_news opened.Open = news.WatchGiven
watch_news opened.Expired = news.Replied
watch_news (opened.Refused code wait) = news.Troubled (refusal code)
watch_news opened.Lost = news.Troubled trouble.NoReply

-- nor while streams of initial events are, which are watches, but where the server does not know them: a list stands for them then
abbrev pub stream_news : Opened → News
stream_news opened.Open = news.WatchGiven
stream_news opened.Expired = news.Troubled (trouble.WatchesRefused 410)
stream_news (opened.Refused code wait) = if is_refusal_of_streams code then news.Replied else news.Troubled (refusal code)
stream_news opened.Lost = news.Troubled trouble.NoReply

-- that there is no reply is over by any reply; that lists are refused by what is given; that watches are by a watch, and not by the list before
-- it; and that something is not understood by what is
abbrev pub is_over : News → Trouble → Bool
is_over (news.Troubled other) t = false
is_over n trouble.NoReply = true
is_over news.ListGiven (trouble.ListsRefused code) = true
is_over news.WatchGiven (trouble.ListsRefused code) = true
is_over news.WatchGiven (trouble.WatchesRefused code) = true
is_over news.Understood trouble.NotUnderstood = true
is_over n t = false

-- an object is to be made
abbrev pub is_create : words.Request → Bool
is_create (words.create_object kind ns d) = true
is_create request = false

-- all codes above those of success are told, but 409 and 404: that an object is another by now, or gone, is in the nature of working by a copy;
-- but 404 is told where an object is to be made, as then its namespace or the path is not there
abbrev pub is_told : words.Request → ℕ → Bool
is_told request code = nat_le 300 code && not (nat_eq code 409) && (not (nat_eq code 404) || is_create request)
