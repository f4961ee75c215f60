-- What connects to a server.
use Rattle.std.specs.Prelude.{ℕ}
use Rattle.tcp_client.specs.declared.connecting.TcpConnect.{TcpConnect}
use Rattle.tcp_client.specs.declared.stoppable_connecting.StoppableConnect.{StoppableConnect}
use Rattle.tcp_client.specs.declared.time_limits.TimeLimits.{TimeLimits}

-- the server to which it connects
abbrev pub server_of : {R A : Type 0} → TcpConnect R A → A
server_of c = c.server

-- how long its connections wait
abbrev pub limits_of : {R A : Type 0} → TcpConnect R A → TimeLimits
limits_of c = c.limits

-- what connects until a stop
abbrev pub connector_of : {R A : Type 0} → StoppableConnect R A → TcpConnect R A
connector_of c = c.connector

-- how many seconds its reads wait for a byte
abbrev pub seconds_of : {R A : Type 0} → StoppableConnect R A → ℕ
seconds_of c = c.seconds
