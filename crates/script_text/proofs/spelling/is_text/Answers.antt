use Rattle.std.proofs.Common.{rules, tests, ◌≡◌, ◌≤◌, ◌&&◌, leb, length, true, arith, Bool}
use Rattle.std.specs.List.{list_all}
use Rattle.std.proofs.lemmas.Bool.{le-leb}
use Rattle.std.proofs.lemmas.Iterator.{YieldsList-from_slice}
use Rattle.std.proofs.lemmas.Iterator.Search.{all_from_yields_List}
use Rattle.script_text.specs.declared.event.TheConstants.{TEXT_MAX}
use Rattle.script_text.proofs.spelling.is_text.Goals as goal

and_same : (x y z : Bool) → x ≡ true → z ≡ y → z ≡ (x && y)
and_same x y z is same = rw is same

pub returns-then-bytes-le-TEXT_MAX : goal.returns-then-bytes-le-TEXT_MAX
returns-then-bytes-le-TEXT_MAX c =
    let all : c.all.result ≡ list_all (λ b. leb 32 b && leb b 126) c.args.bytes.now = all_from_yields_List (λ b. leb 32 b && leb b 126) _ _ c.all.result c.all.ensures.ran (YieldsList-from_slice c.args.bytes.now cc) (λ x b q k. search (rules, tests)) in
    let short : length c.args.bytes.now ≤ TEXT_MAX = grind arith in
    and_same _ _ _ (le-leb _ _ short) all
