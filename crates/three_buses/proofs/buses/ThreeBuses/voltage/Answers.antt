use Rattle.std.proofs.Common.{refl}
use Rattle.std.proofs.lemmas.Int.{to_z-of_z}
use Rattle.three_buses.proofs.Voltages.{shares_added, voltage_added}
use Rattle.three_buses.proofs.buses.ThreeBuses.voltage.Goals as goal

pub overflow_add-result : goal.overflow_add-result
overflow_add-result c =
    let self = c.args.self.now in
    let h = shares_added self.responses self.standing self.mute self.settings self.plant self.settled c.args.bus c.requires c.share.result _ _ c.share.ensures refl refl in
    let first = h.first in
    let one = h.share_one in
    simp to_z-of_z h.second

pub overflow_add-result-2 : goal.overflow_add-result-2
overflow_add-result-2 c =
    let self = c.args.self.now in
    let h = shares_added self.responses self.standing self.mute self.settings self.plant self.settled c.args.bus c.requires c.share.result c.share-2.result _ c.share.ensures c.share-2.ensures refl in
    let first = h.first in
    let one = h.share_one in
    let two = h.share_two in
    let second = h.second in
    simp to_z-of_z h.third

pub overflow_add-result-3 : goal.overflow_add-result-3
overflow_add-result-3 c =
    let self = c.args.self.now in
    let h = shares_added self.responses self.standing self.mute self.settings self.plant self.settled c.args.bus c.requires c.share.result c.share-2.result c.share-3.result c.share.ensures c.share-2.ensures c.share-3.ensures in
    let first = h.first in
    let one = h.share_one in
    let two = h.share_two in
    let three = h.share_three in
    let second = h.second in
    let third = h.third in
    simp to_z-of_z h.all

pub returns : goal.returns
returns c =
    let self = c.args.self.now in
    let h = shares_added self.responses self.standing self.mute self.settings self.plant self.settled c.args.bus c.requires c.share.result c.share-2.result c.share-3.result c.share.ensures c.share-2.ensures c.share-3.ensures in
    let first = h.first in
    let one = h.share_one in
    let two = h.share_two in
    let three = h.share_three in
    let second = h.second in
    let third = h.third in
    let all = h.all in
    simp to_z-of_z (voltage_added self.responses self.standing self.mute self.settings self.plant self.settled c.args.bus c.requires c.share.result c.share-2.result c.share-3.result c.share.ensures c.share-2.ensures c.share-3.ensures)
