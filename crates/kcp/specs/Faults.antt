-- What the program calls a fault.
use Rattle.std.specs.Prelude.{ℕ, List, codes}
use Rattle.line_service.specs.declared.fault.RunFault.{RunFault}
use Rattle.line_service.specs.declared.fault.RunFault.TheVariants as fault
use Rattle.http_event_loop.specs.declared.fault.ListenFault.{ListenFault}
use Rattle.http_event_loop.specs.declared.fault.ListenFault.TheVariants as serve
use Rattle.kcp_lines.specs.declared.relay_fault.RelayFault.{RelayFault}
use Rattle.kcp_lines.specs.declared.relay_fault.RelayFault.TheVariants as relay
use Rattle.kcp_commands.specs.declared.all_together.AllFault.{AllFault}
use Rattle.kcp_commands.specs.declared.all_together.AllFault.TheVariants as together

-- what a fault of a replay, and of serving, is called
abbrev pub fault_text : RunFault → List ℕ
fault_text fault.Read = codes "read"
fault_text fault.Write = codes "write"
fault_text fault.Want = codes "no memory"

abbrev pub serve_fault_text : ListenFault → List ℕ
serve_fault_text serve.Listen = codes "listen"
serve_fault_text serve.Write = codes "write"
serve_fault_text serve.NoMemory = codes "no memory"

-- what a fault of lines that are asked of a server is called, and of a server with its controllers
abbrev pub relay_fault_text : RelayFault → List ℕ
relay_fault_text (relay.Run why) = fault_text why
relay_fault_text relay.NoReply = codes "no reply"

abbrev pub all_fault_text : AllFault → List ℕ
all_fault_text (together.Serve why) = serve_fault_text why
all_fault_text (together.Relay why) = relay_fault_text why
