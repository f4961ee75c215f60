-- A server of another process.
use Rattle.kcp_loopback.specs.declared.other_server.OtherServer.{OtherServer}

-- what asks it
abbrev pub api_of : {R A : Type 0} → OtherServer R A → A
api_of s = s.api
