-- What requests do, as far as a server may fail at one and not at another.
use Rattle.spec_api.specs.ObjectRequests.{Request, get_object, list_objects, create_object, update_object, update_status, patch_object, delete_object}
use Rattle.kcp_loopback.specs.declared.errand.Deed.{Deed}
use Rattle.kcp_loopback.specs.declared.errand.Deed.TheVariants as deed

-- each verb is a deed of its own, and a list the same as a watch
abbrev pub deed_of : Request → Deed
deed_of (get_object k) = deed.Get
deed_of (list_objects v) = deed.Follow
deed_of (create_object kind ns d) = deed.Create
deed_of (update_object k d) = deed.Update
deed_of (update_status k d) = deed.UpdateStatus
deed_of (patch_object k d) = deed.Patch
deed_of (delete_object k o) = deed.Delete
