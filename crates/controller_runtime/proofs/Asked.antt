-- What asks a server over TCP may be sent to a thread.
use denote.RattleType.{RattleType}
use denote.Ref.{NamedLft}
use denote.Param.Send.{IsSend, IsSync}
use Rattle.std.proofs.Crossing as heap
use Rattle.std.proofs.io.buffered.BufReader.TheSendSync as buffered
use Rattle.std.proofs.net.tcp.TcpStream.TheSendSync as stream
use Rattle.std.specs.contracts.alloc.Global as Global
use Rattle.std.specs.contracts.impls.GlobalAllocator.TheImpl.{ghosts}
use Rattle.std.specs.contracts.io.buffered.BufReader as BufReader
use Rattle.std.specs.contracts.net.tcp.TcpStream as TcpStream
use Rattle.tcp_client.proofs.patient.Patient.TheSendSync as patient
use Rattle.tcp_client.specs.contracts.patient.Patient as Patient
use Rattle.controller_runtime.proofs.programs.Connector.TheSendSync as connector_of
use Rattle.controller_runtime.specs.contracts.programs.Connector as Connector
use Rattle.api_client.proofs.asking.Remote.TheSendSync as remote_of
use Rattle.api_client.specs.contracts.asking.Remote as Remote
use Rattle.api_notes.proofs.told.Told.TheSendSync as told_of
use Rattle.api_notes.specs.contracts.told.Told as Told

module _ (a : NamedLft) (R : RattleType) (r : IsSync R) where
  -- what reads a connection
  abbrev Reading : RattleType
  Reading = BufReader.the_row (Patient.the_row a R TcpStream.the_row) Global.the_row ghosts

  reading : IsSend Reading
  reading = buffered.the_send (Patient.the_row a R TcpStream.the_row) Global.the_row ghosts (patient.the_send a R TcpStream.the_row stream.the_send r) heap.send heap.frees

  connector : IsSend (Connector.the_row a R)
  connector = connector_of.the_send a R r

  abbrev Asking : RattleType
  Asking = Remote.the_row (Connector.the_row a R) Reading TcpStream.the_row

  asking : IsSend Asking
  asking = remote_of.the_send (Connector.the_row a R) Reading TcpStream.the_row connector reading

  pub asked : (b : NamedLft) (N : RattleType) → IsSync N → IsSend (Told.the_row b Asking N)
  asked b N n = told_of.the_send b Asking N asking n
