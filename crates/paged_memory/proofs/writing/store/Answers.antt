use Rattle.std.proofs.Common.{◌%◌, rules, refl, ap, set}
use Rattle.paged_memory.specs.Cells.{bytes_of}
use Rattle.paged_memory.proofs.Stored.{put_read, store_ok, store_sound, store_refused}
use Rattle.paged_memory.proofs.Fetched.{fetched_alike}
use Rattle.paged_memory.proofs.Writes.{stored}
use Rattle.paged_memory.proofs.writing.store.Goals as goal

pub returns-in_default-clause-err : goal.returns-in_default-clause-err
returns-in_default-clause-err c =
    (store_refused c.args.text c.args.pages.now c.args.address c.args.value c.args.width c.requires.sized c.in_default.ensures.missing (search rules), refl)

pub returns-clause-ok : goal.returns-clause-ok
returns-clause-ok c =
    let found = c.in-Some.ensures.found in
    let new = put_read c.args.pages.now c.in-Some.place (c.args.address % 4096) (bytes_of c.args.width) c.args.value _ _ found.2 c.put.ensures in
    store_ok c.args.text c.args.pages.now _ c.args.address c.args.value c.in-Some.place c.args.width c.requires found.0 found.1 found.2 (search rules) (ap (set c.args.pages.now c.in-Some.place) new)

pub returns-clause-stored : goal.returns-clause-stored
returns-clause-stored c =
    let found = c.in-Some.ensures.found in
    let new = put_read c.args.pages.now c.in-Some.place (c.args.address % 4096) (bytes_of c.args.width) c.args.value _ _ found.2 c.put.ensures in
    stored _ _ c.args.address (bytes_of c.args.width) c.args.value (store_ok c.args.text c.args.pages.now _ c.args.address c.args.value c.in-Some.place c.args.width c.requires found.0 found.1 found.2 (search rules) (ap (set c.args.pages.now c.in-Some.place) new))

pub returns-clause-fetched : goal.returns-clause-fetched
returns-clause-fetched c =
    let found = c.in-Some.ensures.found in
    let new = put_read c.args.pages.now c.in-Some.place (c.args.address % 4096) (bytes_of c.args.width) c.args.value _ _ found.2 c.put.ensures in
    fetched_alike c.args.text c.args.pages.now _ c.in-Some.place _ c.requires.sized found.1 (ap (set c.args.pages.now c.in-Some.place) new)

pub returns-clause-sound : goal.returns-clause-sound
returns-clause-sound c =
    let found = c.in-Some.ensures.found in
    let new = put_read c.args.pages.now c.in-Some.place (c.args.address % 4096) (bytes_of c.args.width) c.args.value _ _ found.2 c.put.ensures in
    store_sound c.args.text c.args.pages.now _ (c.args.address % 4096) (bytes_of c.args.width) c.args.value c.in-Some.place c.requires found.2 (ap (set c.args.pages.now c.in-Some.place) new)
