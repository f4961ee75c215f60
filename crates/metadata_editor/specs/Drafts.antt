-- An object whose metadata is being written.
use Rattle.std.specs.Prelude.{refl}
use Rattle.std.specs.Coded.{Coded, code_by, coded×}
use Rattle.serde_json.specs.Data.{Data, Members}
use Rattle.spec_api.specs.declared.kinds.Kind.{Kind}
use Rattle.spec_api.specs.contracts.kinds.Kind as kind
use Rattle.model_encodings.specs.Codes.{coded_data, code_members, inj_members}

-- the kind, what the object says but for its metadata, and the metadata so far
pub record Draft : Type 0 where
  pub kind : Kind
  pub rest : Data
  pub metadata : Members

abbrev pub coded_members : Coded Members
coded_members = record { code = code_members; inj = inj_members }

-- by which a model may hold a draft
abbrev pub coded_draft : Coded Draft
coded_draft = code_by (Kind × (Data × Members)) (coded× kind.the_row.coded (coded× coded_data coded_members)) (λ d. (d.kind, (d.rest, d.metadata))) (λ p. record { kind = p.0; rest = p.1.0; metadata = p.1.1 }) (λ _. refl)
