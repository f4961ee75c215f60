-- An informer with a runtime.
use Rattle.informer.specs.declared.informers.Informer.{Informer}
use Rattle.informer.specs.declared.shared.SharedInformer.{SharedInformer}

-- the informer that is in it
abbrev pub inner : {R : Type 0} → SharedInformer R → Informer
inner s = s.informer
