-- What is known of a world by a session.
use Rattle.std.proofs.Common.{◌≡◌, ℕ, suc, ◌<◌, ◌≤◌, ℤ, pos, List, length, take, Option, Some, None, IfSome, option_map, unwrap_or, refl, sym, ◌∙◌, ap, arith}
use Rattle.std.proofs.lemmas.Int.{ints}
use Rattle.std.proofs.lemmas.List.{length-take}
use Rattle.pl_spec.specs.AsOf.{as_of}
use Rattle.pl_pipeline.specs.Table.{Pipeline}
use Rattle.pl_spec.specs.World.{World}
use Rattle.pl_laws.proofs.AsOf.{slice_get-take}
use Rattle.pl_laws.proofs.Calendars.{SameDays}
use Rattle.pl_world.specs.Known.{ShowsSame}
use Rattle.pl_world.specs.Worlds.{owned_world}
use Rattle.pl_world.specs.declared.owned.OwnedWorld.{OwnedWorld}
use Rattle.pl_planner.specs.Plans.{Planned, IsPlanOf}
use Rattle.pl_planner.proofs.Calendars.{plan-same}
use Rattle.pl_words.specs.Request.{Dated, RunRequest, ExplainRequest, VerifyRequest, WindowsRequest, Run, Explain, Verify, Windows}
use Rattle.pl_load.specs.Range.{IsDateOf, index_asked, index_of}
use Rattle.pl_load.specs.Loads.{AsksWorld, IsKnown}

-- the world as of a date, of contents that are those of the parts
pub world-known : (date : Option Dated) (days : List ℤ) (held : World) (w v : OwnedWorld) (session : Option ℕ) → days ≡ w.sessions → held ≡ owned_world w
    → session ≡ index_asked w.sessions date → IsDateOf w.sessions session date → IsKnown w session v
    → unwrap_or (option_map (λ d. as_of held (index_of days d.day) d.day) date) held ≡ owned_world v
world-known None days held w v None e f k at known = f ∙ sym (ap owned_world known)
world-known None days held w v (Some s) e f k at known = absurd at
world-known (Some d) days held w v None e f k at known = absurd at
world-known (Some d) days held w v (Some s) e f k at known =
    let place : s ≡ index_of w.sessions d.day = cc in
    let both : Some known.day ≡ Some d.day = sym known.is_day ∙ at in
    let day : known.day ≡ d.day = cc in
    rw (e, f) (sym (known.world ∙ ap (λ n. as_of (owned_world w) n known.day) place ∙ ap (as_of (owned_world w) (index_of w.sessions d.day)) day))

pub shown-same : (w v : OwnedWorld) (session : Option ℕ) (p : Pipeline) (from to : ℕ) → IfSome session (λ d. to ≤ d) → IsKnown w session v → ShowsSame (owned_world v) (owned_world w) p from to
shown-same w v None p from to last known = rw known record { rows = refl; written = λ format. refl; codes = refl }
shown-same w v (Some d) p from to last known = known.same p from to (omega (arith, ints))

pub plan-known : (w v : OwnedWorld) (session : Option ℕ) (p : Pipeline) (plan : Planned) → IfSome session (λ d. plan.to ≤ d) → IsKnown w session v → IsPlanOf w.sessions p plan → IsPlanOf v.sessions p plan
plan-known w v None p plan last known is = rw known is
plan-known w v (Some d) p plan last known is =
    let days : v.sessions ≡ take (suc d) w.sessions = ap (λ (x : World). x.days) known.world in
    let within : plan.to < length (take (suc d) w.sessions) = (let inside = is.within in omega (arith, length-take (suc d) w.sessions)) in
    let same : SameDays w.sessions (take (suc d) w.sessions) (pos d) = λ i l. sym (slice_get-take w.sessions (suc d) i (omega (arith, ints))) in
    rw days (plan-same w.sessions (take (suc d) w.sessions) d p plan same last within is)

-- ---- the names of a world are those of the command

pub run-asks : (q : RunRequest) → AsksWorld (Some (Run q)) q.world
run-asks q = record { sessions = refl; assets = refl; labels = refl; numbers = refl; results = refl; bars = refl; revisions = refl; adjustments = refl }

pub explain-asks : (q : ExplainRequest) → AsksWorld (Some (Explain q)) q.world
explain-asks q = record { sessions = refl; assets = refl; labels = refl; numbers = refl; results = refl; bars = refl; revisions = refl; adjustments = refl }

pub verify-asks : (q : VerifyRequest) → AsksWorld (Some (Verify q)) q.world
verify-asks q = record { sessions = refl; assets = refl; labels = refl; numbers = refl; results = refl; bars = refl; revisions = refl; adjustments = refl }

pub windows-asks : (q : WindowsRequest) → AsksWorld (Some (Windows q)) q.world
windows-asks q = record { sessions = refl; assets = refl; labels = refl; numbers = refl; results = refl; bars = refl; revisions = refl; adjustments = refl }
