use Rattle.std.proofs.Common.{◌<◌, ◌≤◌, ◌+◌, length, map, get_or, take, set, refl, sym, ap, ◌∙◌, subst, arith}
use Rattle.std.proofs.lemmas.List.{take_all}
use Rattle.std.proofs.Math.Seq.{map-set_same}
use Rattle.run.specs.Calls.{call_of, answer_of, calls_in, answers_in}
use Rattle.run.specs.Runs.{Follows}
use Rattle.run.proofs.Followed.{followed_none, followed_more, alike_none, alike_more}
use Rattle.run.proofs.Requests.{made, calls_next, answers_next}
use Rattle.run.proofs.run.serve_all.Goals as goal

pub loop-request-init : goal.loop-request-init
loop-request-init g c = record { followed = followed_none g.T.Tariff.meaning c.args.a.now; asks = refl; same = alike_none g.T.Tariff.meaning c.args.a.now }

pub loop-request-preserved : goal.loop-request-preserved
loop-request-preserved g c =
    let mean = g.T.Tariff.meaning in
    let means = g.M.Chosen.means in
    let rs = c.loop-request.requests in
    let i = c.loop-request.request-index in
    let one = get_or rs i c.request-item.result in
    let new = made one.ask c.serve.result in
    let before = c.loop-request.invariant in
    let F = Follows mean c.args.a.now c.serve.new.a in
    let there : i < length rs = omega arith in
    record {
      followed =
          subst (λ cs. F cs (answers_in (take (i + 1) (set rs i new)))) (sym (calls_next rs i new there means))
          (subst (F _) (sym (answers_next rs i new there)) (followed_more mean _ _ _ _ _ (call_of means one.ask) (answer_of c.serve.result) before.followed c.serve.ensures));
      asks = map-set_same (λ r. r.ask) rs i new c.request-item.result refl ∙ before.asks;
      same = alike_more mean _ _ _ before.same c.serve.ensures.same;
    }

pub returns-clause-law : goal.returns-clause-law
returns-clause-law g c =
    let means = g.M.Chosen.means in
    let rs = c.loop-request.requests in
    let i = c.loop-request.request-index in
    let over : length rs ≤ i = omega arith in
    let all = take_all i rs over in
    let so_far = c.loop-request.invariant in
    let F = Follows g.T.Tariff.meaning c.args.a.now c.loop-request.a in
    subst (λ cs. F cs (answers_in rs)) (ap (calls_in means) all ∙ ap (map (call_of means)) so_far.asks) (subst (F _) (ap answers_in all) so_far.followed)
