-- The turns of the loop, one after another.
use Rattle.std.proofs.Common.{◌≡◌, ◌≤◌, ◌<◌, ◌++◌, ◌∙◌, ◌-◌, ℕ, zero, suc, IsTrue, List, [], ◌∷◌, drop, take, length, length-append, map, Result, Ok, Err, refl, sym, ap, subst, arith, append_assoc}
use Rattle.std.specs.List.{AllByRecursion}
use Rattle.std.proofs.lemmas.List.{append-nil, map-append}
use Rattle.std.proofs.Math.Seq.{drop-append_seam}
use Rattle.std.proofs.lemmas.List.Concat.{flat_map-append}
use Rattle.cmr_base.proofs.Lists.{all-append}
use Rattle.cmr_io.specs.Calls.{next_number}
use Rattle.cmr_io.specs.Causes.{Rose}
use Rattle.cmr_io.specs.Reads.{Reads, with_more}
use Rattle.cmr_io.specs.Whole.{AppendsPrefix}
use Rattle.cmr_io.specs.declared.device.Shelf as shelves
use Rattle.cmr_io.specs.declared.device.Sink as sinks
use Rattle.cmr_io.proofs.ReadLemmas.{more_and_more, more_of_none}
use Rattle.cmr_io.proofs.CauseLemmas.{rose_later}
use Rattle.netstrings.specs.Netstrings.{IsIncomplete, StartsWith, netstring, netstrings}
use Rattle.frames.specs.NamedFiles.{NamedBytes}
use Rattle.frames.specs.Replies.{ReplyValue, reply_text}
use Rattle.frames.specs.Requests.{IsTextOf}
use Rattle.serving.specs.Exchanges.{Exchange, IsRight, Rule, frames, replies}
use Rattle.serving.specs.declared.line.Line.{Line}
use Rattle.serving.specs.Lines.{Seen, moment_of, seen_of}
use Rattle.serving.specs.Moments.{Moment}
use Rattle.serving.specs.Serving.{EndsServing, ReadEnds, HasServed, IsUpToDate, RepliesFirst, cut, done, memory, no_frame, no_request, unread, unwritten}
use Rattle.serving.specs.Turns.{HearsSo, IsHeard, IsReplied, IsTurn, RightReplyTo, has_taken, heard, replied}
use Rattle.serving.specs.Turns as turns
use Rattle.serving.specs.declared.turns.Ending.{Ending}
use Rattle.serving.specs.declared.turns.Ending.TheVariants as endings

-- ---- exchanges

frames_more : (exchanges : List Exchange) (one : Exchange) → frames (exchanges ++ one ∷ []) ≡ frames exchanges ++ netstring one.text
frames_more exchanges one =
    ap netstrings (map-append (λ (it : Exchange). it.text) exchanges (one ∷ []))
    ∙ flat_map-append netstring (map (λ (it : Exchange). it.text) exchanges) (one.text ∷ [])
    ∙ ap (λ (xs : List ℕ). frames exchanges ++ xs) (append-nil (netstring one.text))

replies_more : (exchanges : List Exchange) (one : Exchange) → replies (exchanges ++ one ∷ []) ≡ replies exchanges ++ reply_text one.reply
replies_more exchanges one =
    flat_map-append (λ (it : Exchange). reply_text it.reply) exchanges (one ∷ [])
    ∙ ap (λ (xs : List ℕ). replies exchanges ++ xs) (append-nil (reply_text one.reply))

-- the first frame of what is held is one of the exchanges
frame_taken : (exchanges : List Exchange) (one : Exchange) (held rest : List ℕ) → StartsWith held one.text rest → frames exchanges ++ held ≡ frames (exchanges ++ one ∷ []) ++ rest
frame_taken exchanges one held rest first =
    ap (λ (xs : List ℕ). frames exchanges ++ xs) first.whole
    ∙ sym (append_assoc (frames exchanges) (netstring one.text) rest)
    ∙ ap (λ (xs : List ℕ). xs ++ rest) (sym (frames_more exchanges one))

-- ---- one turn

-- a call of the shelf failed
pub none_heard : (before now : Seen) (held : List ℕ) → now.reads ≡ before.reads → now.left ≡ before.left → IsTrue now.failed
    → now.moments ≡ before.moments ++ moment_of before ∷ [] → now.heard ≡ before.heard
    → now.said ≡ before.said → now.taken ≡ before.taken → now.faults ≡ before.faults → now.tells ≡ before.tells → now.reading ≡ before.reading
    → now.writes ≡ before.writes → IsHeard before now held held (Err endings.Unread)
none_heard before now held reads left failed moments h said taken faults tells reading writes = record {
  given = [];
  texts = ap (λ (r : Reads). r.texts) reads ∙ sym (more_of_none before.reads.texts);
  exposed = λ tells. sym left;
  says = (refl, failed);
  moments = moments;
  heard = h ∙ sym (append-nil before.heard);
  said = said;
  taken = taken;
  faults = faults;
  tells = tells;
  reading = reading;
  names = ap (λ (r : Reads). r.names) reads;
  writes = writes;
}

-- a reply to the request with a text
pub right_reply : (rule : Rule) (text : List ℕ) (words : List (List ℕ)) (files : List NamedBytes) (bytes : List ℕ) → IsTextOf text words files
    → ((reply : ReplyValue) × (bytes ≡ reply_text reply) × rule words files reply)
    → (right : RightReplyTo rule text) × (bytes ≡ reply_text right.0.reply)
right_reply rule text words files bytes is (reply, same, right) =
    ((record { text = text; reply = reply }, refl, record { words = words; files = files; is_request = is; is_reply = right }), same)

-- what a line shows after a write
pub after_write : {S O : Type 0} (s : shelves.Ghosts S) (o : sinks.Ghosts O) (old new : Line S O) (taken said : List ℕ) → new.shelf ≡ old.shelf
    → new.talk.heard ≡ old.talk.heard → new.talk.moments ≡ old.talk.moments
    → o.taken new.out ≡ taken → new.talk.said ≡ said → seen_of s o new ≡ has_taken (seen_of s o old) taken (o.faults new.out) said
after_write {S} {O} s o old new taken said shelf h moments t d =
    ap (λ (it : S). seen it new.talk.heard new.talk.moments (o.taken new.out) new.talk.said) shelf
    ∙ ap (λ (it : List ℕ). seen old.shelf it new.talk.moments (o.taken new.out) new.talk.said) h
    ∙ ap (λ (it : List Moment). seen old.shelf old.talk.heard it (o.taken new.out) new.talk.said) moments
    ∙ ap (λ (it : List ℕ). seen old.shelf old.talk.heard old.talk.moments it new.talk.said) t
    ∙ ap (λ (it : List ℕ). seen old.shelf old.talk.heard old.talk.moments taken it) d
  where
    seen : S → List ℕ → List Moment → List ℕ → List ℕ → Seen
    seen it h moments taken said = record {
      tells = s.tells it;
      reading = s.is_reading it;
      left = s.left it;
      reads = s.reads it;
      writes = s.writes it;
      failed = s.failed it;
      taken = taken;
      faults = o.faults new.out;
      heard = h;
      said = said;
      moments = moments;
    }

pub said_whole : (rule : Rule) (text bytes : List ℕ) (before now : Seen) → ((right : RightReplyTo rule text) × (bytes ≡ reply_text right.0.reply))
    → now ≡ has_taken before (before.taken ++ bytes) now.faults (before.said ++ bytes)
    → before.faults ≤ now.faults → IsReplied rule text before now (Ok tt)
said_whole rule text bytes before now (right, same) is later = (right, subst (λ (b : List ℕ). now ≡ has_taken before (before.taken ++ b) now.faults (before.said ++ b)) same is, later)

pub said_part : (rule : Rule) (text bytes : List ℕ) (before now : Seen) → ((right : RightReplyTo rule text) × (bytes ≡ reply_text right.0.reply)) → now ≡ has_taken before now.taken now.faults now.said
    → AppendsPrefix before.taken now.taken bytes → Rose before.faults now.faults → IsReplied rule text before now (Err endings.Unwritten)
said_part rule text bytes before now (right, same) is prefix rose = (right, is, subst (AppendsPrefix before.taken now.taken) same prefix, rose)

-- what is held after the first frame was taken
pub frame_dropped : (count : ℕ) (held text rest : List ℕ) → count ≡ length held - length rest → StartsWith held text rest → drop count held ≡ rest
frame_dropped count held text rest is first =
    ap (λ (n : ℕ). drop n held) (omega (arith, is, ap length first.whole, length-append (netstring text) rest))
    ∙ ap (drop (length (netstring text))) first.whole
    ∙ drop-append_seam (netstring text) rest

-- a buffer keeps room when its bytes are replaced by as many others
pub some_left : (n : ℕ) (bytes items : List ℕ) → 0 < n → length bytes ≡ length items → 0 < length items → 0 < length (take n (bytes ++ drop (length bytes) items))
some_left zero bytes items long same some = absurd (omega arith)
some_left (suc n) [] items long same some = absurd (omega arith)
some_left (suc n) (byte ∷ bytes) items long same some = omega arith

-- ---- the state between two turns

-- Since an earlier state the shelf has given the frames of the exchanges and what is held, and the sink has taken the replies.
pub record Serves (rule : Rule) (before now : Seen) (held : List ℕ) : Type 0 where
  pub exchanges : List Exchange
  pub right : AllByRecursion (IsRight rule) exchanges
  pub given : now.reads.texts ≡ with_more before.reads.texts (frames exchanges ++ held)
  pub taken : now.taken ≡ before.taken ++ replies exchanges
  pub heard_is : now.heard ≡ before.heard ++ (frames exchanges ++ held)
  pub said : now.said ≡ before.said ++ replies exchanges
  pub exposed : IsTrue before.tells → before.left ≡ (frames exchanges ++ held) ++ now.left
  pub first : RepliesFirst rule before now
  pub ends : now.reads.ends ≡ before.reads.ends
  pub later : before.faults ≤ now.faults
  pub tells : now.tells ≡ before.tells
  pub reading : now.reading ≡ before.reading
  pub names : now.reads.names ≡ before.reads.names
  pub writes : now.writes ≡ before.writes

pub starts : (rule : Rule) (before : Seen) → Serves rule before before []
starts rule before = record {
  exchanges = [];
  right = tt;
  given = sym (more_of_none before.reads.texts);
  taken = sym (append-nil before.taken);
  heard_is = sym (append-nil before.heard);
  said = sym (append-nil before.said);
  exposed = λ tells. refl;
  first = record { later = []; moments = sym (append-nil before.moments); each = tt };
  ends = refl;
  later = omega arith;
  tells = refl;
  reading = refl;
  names = refl;
  writes = refl;
}

-- the allocation of the buffer failed, or the loop ran out of numbers
pub ends_short : (rule : Rule) (before now : Seen) (held : List ℕ) → Serves rule before now held → HasServed rule before now endings.Memory
ends_short rule before now held s = record {
  exchanges = s.exchanges;
  right = s.right;
  left = held;
  given = s.given;
  heard = s.heard_is;
  exposed = s.exposed;
  ended = memory s.taken;
  first = s.first;
  names = s.names;
  writes = s.writes;
}

-- ---- a reply

reply_said : (before mid : List ℕ) (exchanges : List Exchange) (one : Exchange) → mid ≡ before ++ replies exchanges → mid ++ reply_text one.reply ≡ before ++ replies (exchanges ++ one ∷ [])
reply_said before mid exchanges one said =
    ap (λ (xs : List ℕ). xs ++ reply_text one.reply) said
    ∙ append_assoc before (replies exchanges) (reply_text one.reply)
    ∙ ap (λ (xs : List ℕ). before ++ xs) (sym (replies_more exchanges one))

reply_goes_on : (rule : Rule) (before mid now : Seen) (held rest after text : List ℕ) → Serves rule before mid held → StartsWith held text rest
    → IsReplied rule text mid now (Ok tt) → after ≡ rest → Serves rule before now after
reply_goes_on rule before mid now held rest after text s first says is =
    let one = says.0.0 in
    let here : StartsWith held one.text rest = subst (λ (t : List ℕ). StartsWith held t rest) (sym says.0.1) first in
    let on = frame_taken s.exchanges one held rest here in
    let exposed : IsTrue before.tells → before.left ≡ (frames (s.exchanges ++ one ∷ []) ++ rest) ++ mid.left = λ tells. s.exposed tells ∙ ap (λ (xs : List ℕ). xs ++ mid.left) on in
    let next : Serves rule before (has_taken mid (mid.taken ++ reply_text one.reply) now.faults (mid.said ++ reply_text one.reply)) rest = record {
      exchanges = s.exchanges ++ one ∷ [];
      right = all-append (IsRight rule) s.exchanges (one ∷ []) s.right (says.0.2, tt);
      given = s.given ∙ ap (with_more before.reads.texts) on;
      taken = reply_said before.taken mid.taken s.exchanges one s.taken;
      heard_is = s.heard_is ∙ ap (λ (xs : List ℕ). before.heard ++ xs) on;
      said = reply_said before.said mid.said s.exchanges one s.said;
      exposed = exposed;
      first = record { later = s.first.later; moments = s.first.moments; each = s.first.each };
      ends = s.ends;
      later = let a = s.later in let b = says.2 in omega arith;
      tells = s.tells;
      reading = s.reading;
      names = s.names;
      writes = s.writes;
    } in
    subst (λ (xs : List ℕ). Serves rule before now xs) (sym is) (subst (λ (n : Seen). Serves rule before n rest) (sym says.1) next)

same_served : (rule : Rule) (before mid now : Seen) (held : List ℕ) (ending : Ending) (s : Serves rule before mid held) → now ≡ mid
    → EndsServing rule held (before.taken ++ replies s.exchanges) before mid ending → HasServed rule before now ending
same_served rule before mid now held ending s same ended = subst (λ (n : Seen). HasServed rule before n ending) (sym same) (record {
  exchanges = s.exchanges;
  right = s.right;
  left = held;
  given = s.given;
  heard = s.heard_is;
  exposed = s.exposed;
  ended = ended;
  first = s.first;
  names = s.names;
  writes = s.writes;
})

reply_ends : (rule : Rule) (before mid now : Seen) (held rest text : List ℕ) (ending : Ending) → Serves rule before mid held → StartsWith held text rest
    → IsReplied rule text mid now (Err ending) → HasServed rule before now ending
reply_ends rule before mid now held rest text endings.Done s first says = absurd says
reply_ends rule before mid now held rest text endings.NoRequest s first says = same_served rule before mid now held endings.NoRequest s says.1 (no_request text rest first says.0 s.taken)
reply_ends rule before mid now held rest text endings.Unread s first says = absurd says
reply_ends rule before mid now held rest text endings.Unwritten s first says =
    let one = says.0.0 in
    let here : StartsWith held one.text rest = subst (λ (t : List ℕ). StartsWith held t rest) (sym says.0.1) first in
    let prefix = subst (λ (t : List ℕ). AppendsPrefix t now.taken (reply_text one.reply)) s.taken says.2 in
    let left : HasServed rule before (has_taken mid now.taken now.faults now.said) endings.Unwritten = record {
      exchanges = s.exchanges;
      right = s.right;
      left = held;
      given = s.given;
      heard = s.heard_is;
      exposed = s.exposed;
      ended = unwritten one says.0.2 rest here prefix (rose_later before.faults mid.faults now.faults s.later says.3);
      first = record { later = s.first.later; moments = s.first.moments; each = s.first.each };
      names = s.names;
      writes = s.writes;
    } in
    subst (λ (n : Seen). HasServed rule before n endings.Unwritten) (sym says.1) left
reply_ends rule before mid now held rest text endings.Memory s first says = same_served rule before mid now held endings.Memory s says (memory s.taken)

-- ---- a piece

-- the moment before a piece was read is up to date
first_on : (rule : Rule) (before mid now : Seen) (held : List ℕ) → Serves rule before mid held → IsIncomplete held → now.moments ≡ mid.moments ++ moment_of mid ∷ [] → RepliesFirst rule before now
first_on rule before mid now held s part moments = record {
  later = s.first.later ++ moment_of mid ∷ [];
  moments =
      moments
      ∙ ap (λ (ms : List Moment). ms ++ moment_of mid ∷ []) s.first.moments
      ∙ append_assoc before.moments s.first.later (moment_of mid ∷ []);
  each = all-append (IsUpToDate rule (moment_of before)) s.first.later (moment_of mid ∷ []) s.first.each (here, tt);
}
  where
    here : IsUpToDate rule (moment_of before) (moment_of mid)
    here = (held, record { exchanges = s.exchanges; right = s.right; heard = s.heard_is; said = s.said }, part)

texts_on : (before mid now : Seen) (front held given : List ℕ) → mid.reads.texts ≡ with_more before.reads.texts (front ++ held)
    → now.reads.texts ≡ with_more mid.reads.texts given → now.reads.texts ≡ with_more before.reads.texts (front ++ (held ++ given))
texts_on before mid now front held given first next =
    next
    ∙ ap (λ (texts : List (List ℕ)). with_more texts given) first
    ∙ more_and_more before.reads.texts (front ++ held) given
    ∙ ap (with_more before.reads.texts) (append_assoc front held given)

heard_on : (before mid now front held given : List ℕ) → mid ≡ before ++ (front ++ held) → now ≡ mid ++ given → now ≡ before ++ (front ++ (held ++ given))
heard_on before mid now front held given first next =
    next
    ∙ ap (λ (xs : List ℕ). xs ++ given) first
    ∙ append_assoc before (front ++ held) given
    ∙ ap (λ (xs : List ℕ). before ++ xs) (append_assoc front held given)

left_on : (front held given first next last : List ℕ) → first ≡ (front ++ held) ++ next → next ≡ given ++ last → first ≡ (front ++ (held ++ given)) ++ last
left_on front held given first next last a b =
    a
    ∙ ap (λ (xs : List ℕ). (front ++ held) ++ xs) b
    ∙ sym (append_assoc (front ++ held) given last)
    ∙ ap (λ (xs : List ℕ). xs ++ last) (append_assoc front held given)

piece_goes_on : (rule : Rule) (before mid now : Seen) (held after : List ℕ) → Serves rule before mid held → IsIncomplete held → IsHeard mid now held after (Ok tt) → Serves rule before now after
piece_goes_on rule before mid now held after s part h = subst (λ (xs : List ℕ). Serves rule before now xs) (sym h.says.0) (record {
  exchanges = s.exchanges;
  right = s.right;
  given = texts_on before mid now (frames s.exchanges) held h.given s.given h.texts;
  taken = h.taken ∙ s.taken;
  heard_is = heard_on before.heard mid.heard now.heard (frames s.exchanges) held h.given s.heard_is h.heard;
  said = h.said ∙ s.said;
  exposed = λ tells. left_on (frames s.exchanges) held h.given before.left mid.left now.left (s.exposed tells) (h.exposed (s.tells ∙ tells));
  first = first_on rule before mid now held s part h.moments;
  ends = h.says.1 ∙ s.ends;
  later = subst (λ (n : ℕ). before.faults ≤ n) (sym h.faults) s.later;
  tells = h.tells ∙ s.tells;
  reading = h.reading ∙ s.reading;
  names = h.names ∙ s.names;
  writes = h.writes ∙ s.writes;
})

piece_ends : (rule : Rule) (before mid now : Seen) (held after : List ℕ) (ending : Ending) → Serves rule before mid held → IsIncomplete held
    → IsHeard mid now held after (Err ending) → HasServed rule before now ending
piece_ends rule before mid now held after ending s part h = record {
  exchanges = s.exchanges;
  right = s.right;
  left = held ++ h.given;
  given = texts_on before mid now (frames s.exchanges) held h.given s.given h.texts;
  heard = heard_on before.heard mid.heard now.heard (frames s.exchanges) held h.given s.heard_is h.heard;
  exposed = λ tells. left_on (frames s.exchanges) held h.given before.left mid.left now.left (s.exposed tells) (h.exposed (s.tells ∙ tells));
  ended = go ending h.says;
  first = first_on rule before mid now held s part h.moments;
  names = h.names ∙ s.names;
  writes = h.writes ∙ s.writes;
}
  where
    taken : now.taken ≡ before.taken ++ replies s.exchanges
    taken = h.taken ∙ s.taken

    none : h.given ≡ [] → held ++ h.given ≡ held
    none e = ap (λ (xs : List ℕ). held ++ xs) e ∙ append-nil held

    read : ReadEnds mid now → ReadEnds before now
    read e = record { ends = e.ends ∙ ap next_number s.ends; none = e.none }

    go : (ending : Ending) → HearsSo mid now held h.given after (Err ending) → EndsServing rule (held ++ h.given) (before.taken ++ replies s.exchanges) before now ending
    go endings.Done (empty, same, ended) = done (none same ∙ empty) (read ended) taken
    go endings.NoRequest (some, same, ended) = cut (λ e. some (sym (none same) ∙ e)) (subst IsIncomplete (sym (none same)) part) (read ended) taken
    go endings.Unread (same, failed) = unread (subst IsIncomplete (sym (none same)) part) failed taken
    go endings.Unwritten says = absurd says
    go endings.Memory says = memory taken

-- ---- a turn

pub goes_on : (rule : Rule) (before mid now : Seen) (held after : List ℕ) (done : Unit {0}) → Serves rule before mid held → IsTurn rule mid now held after (Ok done) → Serves rule before now after
goes_on rule before mid now held after it s (replied text rest first says is) = reply_goes_on rule before mid now held rest after text s first says is
goes_on rule before mid now held after it s (heard part h) = piece_goes_on rule before mid now held after s part h
goes_on rule before mid now held after it s (turns.no_frame never is same) = absurd (cc)

is_same : (ending other : Ending) → ◌≡◌ {A = Result (Unit {0}) Ending} (Err ending) (Err other) → ending ≡ other
is_same ending other e = cc

pub ends_so : (rule : Rule) (before mid now : Seen) (held after : List ℕ) (ending : Ending) → Serves rule before mid held
    → IsTurn rule mid now held after (Err ending) → HasServed rule before now ending
ends_so rule before mid now held after ending s (replied text rest first says is) = reply_ends rule before mid now held rest text ending s first says
ends_so rule before mid now held after ending s (heard part h) = piece_ends rule before mid now held after ending s part h
ends_so rule before mid now held after ending s (turns.no_frame never is same) =
    subst (λ (e : Ending). HasServed rule before now e) (sym (is_same ending endings.NoRequest is)) (same_served rule before mid now held endings.NoRequest s same (no_frame never s.taken))
