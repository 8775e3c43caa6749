use Rattle.std.proofs.Common.{rules, tests, ◌≡◌, ◌≤◌, ◌&&◌, leb, length, true, arith, Bool}
use Rattle.std.specs.List.{list_all}
use Rattle.std.proofs.lemmas.Bool.{and_from, le-leb}
use Rattle.std.proofs.lemmas.Iterator.{YieldsList-from_slice}
use Rattle.std.proofs.lemmas.Iterator.Search.{all_from_yields_List}
use Rattle.job_text.proofs.spelling.is_token.Goals as goal

and_same : (x y z : Bool) → x ≡ true → z ≡ y → z ≡ (x && y)
and_same x y z is same = rw is same

pub returns : goal.returns
returns c =
    let all : c.all.result ≡ list_all (λ b. leb 33 b && leb b 126) c.args.word.now = all_from_yields_List (λ b. leb 33 b && leb b 126) _ _ c.all.result c.all.ensures.ran (YieldsList-from_slice c.args.word.now cc) (λ x b q k. search (rules, tests)) in
    let low : 1 ≤ length c.args.word.now = grind arith in
    let high : length c.args.word.now ≤ 255 = grind arith in
    and_same _ _ _ (and_from _ _ (le-leb _ _ low) (le-leb _ _ high)) all
