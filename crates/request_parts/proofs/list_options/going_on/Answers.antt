use Rattle.std.proofs.Common.{ap}
use Rattle.spec_api.specs.ListQueries.{going_on}
use Rattle.spec_api.proofs.TokensRead.{token_is_read}
use Rattle.pages.specs.Seen.{token_of}
use Rattle.request_parts.proofs.TokenTexts.{goes_nowhere}
use Rattle.request_parts.proofs.list_options.going_on.Goals as goal

pub returns-in-Ok : goal.returns-in-Ok
returns-in-Ok c = ap (going_on c.args.limit) (token_is_read c.args.text.now (token_of c.in-Ok.token) c.in-Ok.ensures.read)

pub returns-in-Err-BadRequest : goal.returns-in-Err-BadRequest
returns-in-Err-BadRequest c =
    goes_nowhere c.args.text.now c.args.limit c.in-Err-BadRequest.field-0 c.in-Err-BadRequest.field-0-0 c.in-Err-BadRequest.field-0-is c.in-Err-BadRequest.ensures.refused
