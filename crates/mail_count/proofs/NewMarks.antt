-- Marks of a round that begins, gathered device by device.
use Rattle.std.proofs.Common.{◌≡◌, ◌<◌, ◌+◌, ℕ, List, [], ◌∷◌, ◌++◌, length, map, take, get_or, replicate, sym, ◌∙◌, ap, arith, false, Vec, Global}
use Rattle.std.proofs.Math.Path.{fun_ext}
use Rattle.std.proofs.lemmas.List.{length-map, map-append}
use Rattle.topology.specs.declared.types.Device.{Device}
use Rattle.topology.specs.Networks.{Network, NetDevice, net_device_of, numbers}
use Rattle.message_links.specs.MailCores.{Message, MailCore, Pairs}
use Rattle.message_links.specs.MailRounds.{posts_of}
use Rattle.mail_count.specs.declared.pairs.Bringing.{Bringing}
use Rattle.mail_count.specs.Seen.{fresh}
use Rattle.mail_count.specs.Marks.{row_of, many}
use Rattle.mail_count.proofs.Rewriting.{take_more}
use Rattle.mail_count.proofs.Tables.{all_false}

ids_more : (ds : List Device) (i : ℕ) (x : Device) → i < length ds → x ≡ get_or ds i x → numbers (map net_device_of (take (i + 1) ds)) ≡ numbers (map net_device_of (take i ds)) ++ x.id ∷ []
ids_more ds i x h q =
    ap (λ (l : List Device). numbers (map net_device_of l)) (take_more ds i x h ∙ ap (λ (y : Device). take i ds ++ y ∷ []) (sym q))
    ∙ ap numbers (map-append net_device_of (take i ds) (x ∷ []))
    ∙ map-append (λ (n : NetDevice). n.id) (map net_device_of (take i ds)) (net_device_of x ∷ [])

-- one row more
pub rows_more : {Y : Type 0} (N : Network) (f : Bringing → Y) (g : Pairs Y) (rows : List (Vec Bringing Global)) (row : Vec Bringing Global) (ds : List Device) (i : ℕ) (x : Device) → i < length ds → x ≡ get_or ds i x
    → map (λ (r : Vec Bringing Global). map f r.items) rows ≡ map (row_of N g) (numbers (map net_device_of (take i ds))) → map f row.items ≡ row_of N g x.id
    → map (λ (r : Vec Bringing Global). map f r.items) (rows ++ row ∷ []) ≡ map (row_of N g) (numbers (map net_device_of (take (i + 1) ds)))
rows_more {Y} N f g rows row ds i x h q was made =
    map-append (λ (r : Vec Bringing Global). map f r.items) rows (row ∷ [])
    ∙ ap (λ rs. rs ++ map f row.items ∷ []) was
    ∙ ap (λ r. map (row_of N g) (numbers (map net_device_of (take i ds))) ++ r ∷ []) made
    ∙ sym (map-append (row_of N g) (numbers (map net_device_of (take i ds))) (x.id ∷ []))
    ∙ ap (map (row_of N g)) (sym (ids_more ds i x h q))

pub many_more : {Y : Type 0} (rows : List (List Y)) (r : List Y) → many (rows ++ r ∷ []) ≡ many rows + length r
many_more [] r = omega arith
many_more (s ∷ rows) r = let ih = many_more rows r in omega arith

-- nothing in transit is of the round
pub fresh_own : (c : MailCore) → (λ a b. replicate (length (c.transit a b)) false) ≡ (fresh (posts_of c)).own
fresh_own c = fun_ext (λ a. fun_ext (λ b.
    all_false (length (c.transit a b)) (map (λ (m : Message). m.sent) (c.transit a b)) (sym (length-map (c.transit a b) (λ (m : Message). m.sent)))))
