-- Why a query is not read.
use Rattle.spec_api.specs.declared.refusals.Part.TheVariants as part
use Rattle.object_keys.specs.declared.fault.Fault.{Fault}
use Rattle.object_keys.specs.declared.fault.Fault.TheVariants as fault
use Rattle.request_parts.specs.declared.faults.MemberFault.{MemberFault}
use Rattle.request_parts.specs.declared.faults.MemberFault.TheVariants as member
use Rattle.request_parts.specs.declared.faults.QueryFault.{QueryFault}
use Rattle.request_parts.specs.declared.faults.QueryFault.TheVariants as query

-- a fault of a member that is no page token, as one of its query
abbrev pub fault_of : MemberFault → QueryFault
fault_of member.BadQuery = query.BadQuery
fault_of member.NoMemory = query.NoMemory

-- and as one of its request
abbrev pub query_fault : QueryFault → Fault
query_fault query.BadQuery = fault.BadRequest part.Query
query_fault query.BadToken = fault.BadRequest part.Token
query_fault query.NoMemory = fault.NoMemory
