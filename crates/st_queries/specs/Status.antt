-- What is told of an image's numbers.
use Rattle.std.specs.Prelude.{ℕ, ◌-◌, length, min, codes}
use Rattle.serde_json.specs.Data.{Data, string, object, member, no_members}
use Rattle.st_classes.specs.Classes.{class_count}
use Rattle.st_wire.specs.Replies.{whole}
use Rattle.st_queries.specs.declared.hosts.Host.{Host}
use Rattle.st_queries.specs.Hosts.{epoch}
use Rattle.st_queries.specs.Snapshots.{Snapshot}

-- how many edits there is room for: 4,096 in the class table, 2,048 in a run
abbrev pub edits_left : Snapshot → ℕ
edits_left s = min (4096 - length s.edits) (2048 - s.edits_made)

abbrev pub status_told : Snapshot → Host → Data
status_told s host = object
    (member (codes "actors") (whole s.actors)
    (member (codes "classes") (whole (class_count s.edits))
    (member (codes "edits") (whole (length s.edits))
    (member (codes "edits_left") (whole (edits_left s))
    (member (codes "epoch") (string (epoch host))
    (member (codes "faults") (whole s.failed_turns)
    (member (codes "history") (whole s.items)
    (member (codes "history_most") (whole s.most_items)
    (member (codes "names") (whole (length s.names))
    (member (codes "posts") (whole s.counts.posts)
    (member (codes "sessions") (whole host.sessions)
    (member (codes "steps") (whole s.counts.steps)
    (member (codes "workers") (whole host.workers)
    no_members)))))))))))))
