-- What the errors of connections that are to be made say, and which troubles are of these.
use Rattle.std.specs.Prelude.{◌≡◌, ◌⊎◌, ℤ, pos, Option, Some, Bool, true, false}
use Rattle.kcp_loopback.specs.declared.trouble.Trouble.{Trouble}
use Rattle.kcp_loopback.specs.declared.trouble.Trouble.TheVariants.{Unreachable, NoDescriptor, NoMemory, Unreadable, NoReply}

-- no descriptor is left for this process, or on the machine (Linux, errno(3), EMFILE and ENFILE)
abbrev pub LacksDescriptor : Option ℤ → Type 0
LacksDescriptor code = (code ≡ Some (pos 24)) ⊎ (code ≡ Some (pos 23))

-- no connection is made, for whatever reason
abbrev pub is_of_connections : Trouble → Bool
is_of_connections Unreachable = true
is_of_connections NoDescriptor = true
is_of_connections NoMemory = true
is_of_connections Unreadable = false
is_of_connections NoReply = false
