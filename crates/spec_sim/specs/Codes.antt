-- Codes by which models may store links and followers.
use Rattle.std.specs.Prelude.{ℕ, List, Bool, Option, refl}
use Rattle.std.specs.Coded.{Coded, code_by, coded×, coded_ℕ, coded_bool, coded_list, coded_option}
use Rattle.serde_json.specs.Data.{Data}
use Rattle.model_encodings.specs.Codes.{coded_text, coded_data}
use Rattle.model_encodings.specs.HistoryCodes.{coded_key}
use Rattle.spec_api.specs.Keys.{Key}
use Rattle.spec_client_go.specs.Codes.{coded_reflector}
use Rattle.spec_client_go.specs.InformerCodes.{coded_informer}
use Rattle.spec_client_go.specs.Informers.{Informer}
use Rattle.spec_client_go.specs.Reflectors.{Reflector}
use Rattle.spec_client_go.specs.Shifts.{Shift}
use Rattle.spec_api.specs.Streams.{Line}
use Rattle.spec_sim.specs.Followers.{Link, Notification, Follower}
use Rattle.spec_sim.specs.LineCodes.{coded_line}

abbrev pub coded_link : Coded Link
coded_link =
    code_by ((ℕ × List Line) × (List ℕ × Bool)) (coded× (coded× coded_ℕ (coded_list coded_line)) (coded× coded_text coded_bool))
    (λ l. ((l.stands, l.initial), (l.unread, l.is_refused))) (λ p. record { stands = p.0.0; initial = p.0.1; unread = p.1.0; is_refused = p.1.1 }) (λ _. refl)

abbrev pub coded_shift : Coded Shift
coded_shift =
    code_by (Key × (Option Data × Option Data)) (coded× coded_key (coded× (coded_option coded_data) (coded_option coded_data))) (λ s. (s.key, (s.old, s.new)))
    (λ p. record { key = p.0; old = p.1.0; new = p.1.1 }) (λ _. refl)

abbrev pub coded_notification : Coded Notification
coded_notification =
    code_by (Shift × Bool) (coded× coded_shift coded_bool) (λ n. (n.shift, n.is_in_initial_list)) (λ p. record { shift = p.0; is_in_initial_list = p.1 }) (λ _. refl)

abbrev pub coded_follower : Coded Follower
coded_follower =
    code_by ((Option Link × Reflector) × (Informer × (List Notification × Bool)))
    (coded× (coded× (coded_option coded_link) coded_reflector) (coded× coded_informer (coded× (coded_list coded_notification) coded_bool)))
    (λ f. ((f.link, f.reflector), (f.informer, (f.unhandled, f.has_listed))))
    (λ p. record { link = p.0.0; reflector = p.0.1; informer = p.1.0; unhandled = p.1.1.0; has_listed = p.1.1.1 }) (λ _. refl)
