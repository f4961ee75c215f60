-- What follows for a client and a server that speak with one another.
use Rattle.std.specs.Prelude.{◌≡◌, ◌<◌, ℕ, List, ◌++◌, length}
use Rattle.spec_http.specs.Replies.{response_text}
use Rattle.spec_http.specs.Answers.{Replied}
use Rattle.spec_http.specs.ClientLaws.{IsReply}
use Rattle.http_client.specs.Replies.{SaysWhole, SaysNoReply, IsLonger}

-- bytes begin with at most one whole reply, however the end of its body is known
abbrev pub OneWholeReplyIsSaid : Type 0
OneWholeReplyIsSaid = (bytes : List ℕ) (r s : Replied) → SaysWhole bytes r → SaysWhole bytes s → r ≡ s

-- what a server writes for a reply begins with that reply and with no other, whatever follows it
abbrev pub WrittenRepliesAreWhole : Type 0
WrittenRepliesAreWhole =
    (r : Replied) (rest : List ℕ) → IsReply r
    → SaysWhole (response_text r.code r.body ++ rest) r × ((s : Replied) → SaysWhole (response_text r.code r.body ++ rest) s → s ≡ r)

-- cut anywhere, it begins with none
abbrev pub CutRepliesAreNotWhole : Type 0
CutRepliesAreNotWhole = (r : Replied) (bytes more : List ℕ) → IsReply r → response_text r.code r.body ≡ bytes ++ more → 0 < length more → SaysNoReply bytes

-- bytes that are longer than a limit say no reply that is within it
abbrev pub LongerRepliesAreBeyond : Type 0
LongerRepliesAreBeyond = (most : ℕ) (bytes : List ℕ) (r : Replied) → IsLonger most bytes → SaysWhole bytes r → most < length r.body
