use Rattle.std.proofs.Common.{map, drop}
use Rattle.topology.specs.Networks.{net_device_of, numbers}
use Rattle.mail_drive.specs.Drives.{brings}
use Rattle.mail_drive.proofs.DrivenLogs.{Left}
use Rattle.mail_drive.proofs.driving.bring_all.Given as goal

abbrev pub invariant-loop-device : goal.invariant-loop-device
invariant-loop-device l = record {
  left : Left (brings l.net (numbers l.net.devices) l.fn.words) l.fn.log.items l.log.items (brings l.net (numbers (map net_device_of (drop l.device-index l.device-items))) l.words);
}
