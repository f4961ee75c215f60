-- What a fault tells the client.
use Rattle.spec_api.specs.Refusals.{Refusal, bad_request, not_found, no_such_path, method_not_allowed, already_exists, conflict, expired, length_required, too_large, unsupported_media_type, invalid, no_memory, too_new, storage_full}
use Rattle.object_keys.specs.declared.fault.Fault.{Fault}
use Rattle.object_keys.specs.declared.fault.Fault.TheVariants as fault
use Rattle.object_keys.specs.Keys.{key_of}

-- the refusal that a fault is answered by
abbrev pub refusal_of : Fault → Refusal
refusal_of (fault.BadRequest p) = bad_request p
refusal_of (fault.NotFound k) = not_found (key_of k)
refusal_of fault.NoSuchPath = no_such_path
refusal_of fault.MethodNotAllowed = method_not_allowed
refusal_of (fault.AlreadyExists k) = already_exists (key_of k)
refusal_of (fault.Conflict k why) = conflict (key_of k) why
refusal_of (fault.Expired asked floor) = expired asked floor
refusal_of fault.LengthRequired = length_required
refusal_of fault.TooLarge = too_large
refusal_of fault.UnsupportedMediaType = unsupported_media_type
refusal_of (fault.Invalid k f) = invalid (key_of k) f
refusal_of fault.NoMemory = no_memory
refusal_of (fault.TooNew asked present) = too_new asked present
refusal_of fault.StorageFull = storage_full
