-- What is computed anew is computed by itself on the same sessions.
use Rattle.std.proofs.Common.{◌≡◌, ◌<◌, ◌≤◌, ◌&&◌, nat_le, true, pos, ◌≤ℤ◌, length, ◌∙◌, sym, subst, arith}
use Rattle.std.proofs.lemmas.Int.{ints}
use Rattle.pl_spec.specs.Window.{before}
use Rattle.pl_pipeline.specs.Cones.{Follows, HasDepth, border_terms, reads_of}
use Rattle.std.specs.List.{list_any}
use Rattle.std.proofs.lemmas.Bool.{and_from, or_right}
use Rattle.std.proofs.lemmas.Bool.Decides.{nat_tests}
use Rattle.pl_pipeline.specs.Graph.{contains, mentions_at, used_terms, Used}
use Rattle.pl_pipeline.proofs.Contained.{in-back}
use Rattle.pl_pipeline.specs.Lows.{Needs}
use Rattle.pl_laws.proofs.Cones.{cone-needed, border-needed}
use Rattle.pl_laws.proofs.ConeLists.{border-complete}
use Rattle.pl_laws.proofs.ConeDepths.{depths-sound}
use Rattle.pl_laws.proofs.ConeInputs.{cone-lower}
use Rattle.pl_laws.proofs.Uses.{used_terms-sound, used_terms-complete}
use Rattle.pl_terms.specs.Uses.{outputs}
use Rattle.pl_planner.specs.Plans.{is_used, low_at}
use Rattle.pl_planner.specs.Laws.{ConesAreCovered, BordersAreCovered}
use Rattle.pl_planner.specs.Holds.{is_live_by}
use Rattle.pl_planner.proofs.Live.{contains-filter, some_holds}
use Rattle.pl_planner.proofs.Mentions.{needs-used}
use Rattle.pl_planner.proofs.Pipelines.{IsPipeline, is-pipeline, used-inside}
use Rattle.pl_planner.proofs.Covers.{cone-of}
use Rattle.pl_planner.proofs.ReadTerms.{border-lower}

pub cones-covered : ConesAreCovered
cones-covered days rise p checked plan is k u m c s asked low has =
    let ok : IsPipeline p.graph (outputs p) = is-pipeline p checked in
    let listed : contains (used_terms p.graph (outputs p)) k ≡ true = sym (is.used k) ∙ asked.0 in
    let used_k : Used p.graph (outputs p) k = used_terms-sound p.graph (outputs p) ok.graph k listed in
    let inside : k < length p.graph = used-inside p.graph (outputs p) ok k used_k in
    let follows : Follows p.graph k u m = depths-sound p.graph ok.graph k u m (subst (HasDepth u m) (cone-of days p plan is k inside) has) in
    let own = is.lows.exact k c asked in
    let need : Needs days p.graph (outputs p) (pos c) u (before (pos (low_at plan k c)) m) = cone-needed days p.graph (outputs p) (pos c) ok.graph k (pos (low_at plan k c)) own.needed follows in
    let used_u : Used p.graph (outputs p) u = needs-used days p.graph (outputs p) (pos c) u (before (pos (low_at plan k c)) m) need in
    let used : is_used plan u ≡ true = is.used u ∙ used_terms-complete p.graph (outputs p) ok.graph u (used-inside p.graph (outputs p) ok u used_u) used_u in
    let first : pos (low_at plan u c) ≤ℤ before (pos (low_at plan k c)) m = (is.lows.exact u c (used, asked.1)).least (before (pos (low_at plan k c)) m) need in
    let few_k = is.lows.few k c asked in
    let few_u = is.lows.few u c (used, asked.1) in
    let within_k : low_at plan k c ≤ c = few_k.0 in
    record {
      used = used;
      lower = cone-lower p.graph ok.graph k u m follows;
      computed = omega (arith, ints, first, low);
      few = omega (arith, ints, first, within_k, few_u.0, few_u.1);
    }

-- ---- beside the cone

pub borders-covered : BordersAreCovered
borders-covered days rise p checked plan is k b m c s asked low border =
    let ok : IsPipeline p.graph (outputs p) = is-pipeline p checked in
    let listed : contains (used_terms p.graph (outputs p)) k ≡ true = sym (is.used k) ∙ asked.0 in
    let own = is.lows.exact k c asked in
    let need : Needs days p.graph (outputs p) (pos c) b (before (pos (low_at plan k c)) m) = border-needed days p.graph (outputs p) (pos c) ok.graph k (pos (low_at plan k c)) own.needed border in
    let used_b : Used p.graph (outputs p) b = needs-used days p.graph (outputs p) (pos c) b (before (pos (low_at plan k c)) m) need in
    let listed_b : contains (used_terms p.graph (outputs p)) b ≡ true = used_terms-complete p.graph (outputs p) ok.graph b (used-inside p.graph (outputs p) ok b used_b) used_b in
    let used : is_used plan b ≡ true = is.used b ∙ listed_b in
    let first : pos (low_at plan b c) ≤ℤ before (pos (low_at plan k c)) m = (is.lows.exact b c (used, asked.1)).least (before (pos (low_at plan k c)) m) need in
    let below : b < k = border-lower p.graph ok.graph k b m border in
    let earlier : nat_le b k ≡ true = grind (arith, nat_tests) in
    let itself : nat_le k k ≡ true = grind (arith, nat_tests) in
    let read : contains (reads_of p.graph k) b ≡ true = in-back (mentions_at p.graph k) (border_terms p.graph k) b (border-complete p.graph ok.graph k b m border) in
    let any : list_any (λ u. nat_le k u && contains (reads_of p.graph u) b) (used_terms p.graph (outputs p)) ≡ true
    = some_holds (λ u. nat_le k u && contains (reads_of p.graph u) b) (used_terms p.graph (outputs p)) k listed (and_from _ _ itself read) in
    let live : is_live_by (reads_of p.graph) p.graph (outputs p) k b ≡ true = and_from _ _ earlier (or_right (contains (outputs p) b) _ any) in
    record {
      used = used;
      lower = below;
      live = contains-filter (is_live_by (reads_of p.graph) p.graph (outputs p) k) (used_terms p.graph (outputs p)) b ∙ and_from _ _ listed_b live;
      computed = omega (arith, ints, first, low);
    }
