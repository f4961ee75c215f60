-- Initial events as the definitions say them.
use Rattle.spec_api.specs.WatchReplies.{Initial, initial_at}
use Rattle.server.specs.declared.initials.InitialEvents.{InitialEvents}

abbrev pub initial_of : InitialEvents → Initial
initial_of i = initial_at i.revision i.objects
