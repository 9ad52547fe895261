use Rattle.std.proofs.Common.{codes}
use Rattle.serde_json.specs.Data.{array, member, no_members, put}
use Rattle.st_wire.specs.Replies.{whole}
use Rattle.st_file.proofs.StreamedTexts.{ends_here, ends_more}
use Rattle.st_file.proofs.streaming.rest.rest.Goals as goal

pub returns : goal.returns
returns c =
    let edits = c.in_ok-edits.ensures.read in
    let names = c.in_ok-names.ensures.read in
    let senders = c.in_ok-senders.ensures.read in
    let posts = whole c.in_ok-posts.posts in
    let steps = whole c.in_ok-steps.steps in
    record {
      told = record {
        edits = edits.0;
        names = names.0;
        senders = senders.0;
        ends = λ actors.
            let m1 = member (codes "actors") (array actors) no_members in
            let m2 = put (codes "edits") (array edits.0) m1 in
            let m3 = put (codes "format") (whole 2) m2 in
            let m4 = put (codes "names") (array names.0) m3 in
            let m5 = put (codes "posts") posts m4 in
            let m6 = put (codes "senders") (array senders.0) m5 in
            let m7 = put (codes "steps") steps m6 in
            ends_more m1 _ _ _ _ _ m7 c.in_ok-key.ensures.key edits.1 c.in_ok-edits.ensures.shorter
            (ends_more m2 _ _ _ _ _ m7 c.in_ok-key-2.ensures.key (c.in_ok-format.ensures.read 126) c.in_ok-format.ensures.shorter
            (ends_more m3 _ _ _ _ _ m7 c.in_ok-key-3.ensures.key names.1 c.in_ok-names.ensures.shorter
            (ends_more m4 _ _ _ _ _ m7 c.in_ok-key-4.ensures.key (c.in_ok-posts.ensures.read 126) c.in_ok-posts.ensures.shorter
            (ends_more m5 _ _ _ _ _ m7 c.in_ok-key-5.ensures.key senders.1 c.in_ok-senders.ensures.shorter
            (ends_more m6 _ _ _ _ _ m7 c.in_ok-key-6.ensures.key (c.in_ok-steps.ensures.read 126) c.in_ok-steps.ensures.shorter
            (ends_here m7 _ c.in_ok-close.ensures))))));
        edits_read = edits.2;
        names_read = names.2;
        senders_read = senders.2;
      };
      counted = record { posts = c.in_ok-posts.ensures.few; steps = c.in_ok-steps.ensures.few };
    }
