-- `joined::part` meets its contract: by whether the node was taken, has a branch, and is of a set that is sure. Assumes nothing.
use Rattle.joined.specs.Floods.{past, alone, quiet, keeps}
use Rattle.joined.proofs.Turning.{turn_floodable, turn_listed}
use Rattle.joined.proofs.part.Goals as goal

pub returns-then-m-lt-TELLING : goal.returns-then-m-lt-TELLING
returns-then-m-lt-TELLING c = past c.if-m-lt-TELLING.true

pub returns-then-work-n-eq0 : goal.returns-then-work-n-eq0
returns-then-work-n-eq0 c = alone c.if-m-lt-TELLING.false c.if-work-n-eq0.true c.begin_at.ensures

pub flood-found-requires : goal.flood-found-requires
flood-found-requires c = turn_floodable c.requires c.if-m-lt-TELLING.false

pub begin_all-requires : goal.begin_all-requires
begin_all-requires c =
    turn_listed c.requires c.if-m-lt-TELLING.false c.flood-found.ensures

pub returns-then-found : goal.returns-then-found
returns-then-found c =
    let untaken = c.if-m-lt-TELLING.false in
    quiet untaken c.flood-found.ensures c.begin_all.ensures c.if-found.true

pub returns-else-found : goal.returns-else-found
returns-else-found c =
    let untaken = c.if-m-lt-TELLING.false in
    keeps untaken c.flood-found.ensures c.begin_all.ensures
